-- Bytes with zeros behind them, up to a size.
use Rattle.std.specs.Prelude.{ℕ, ◌-◌, List, ◌++◌, length, replicate}

abbrev pub padded : ℕ → List ℕ → List ℕ
padded most bytes = bytes ++ replicate (most - length bytes) 0
