use Rattle.std.proofs.Common.{◌≡◌, ◌++◌, ◌-◌, length, take, replicate, rules}
use Rattle.medium.proofs.Telling.{tells_push}
use Rattle.medium.proofs.told.Told.push.Goals as goal

pub returns : goal.returns
returns c m ms r t =
    let n : c.len.result ≡ length c.extend_from_slice.new.self.items = search rules in
    let k : c.resize.new.self.items ≡ take c.len.result c.push-2.new.self.items ++ replicate (c.len.result - length c.push-2.new.self.items) 0 = search rules in
    tells_push ms m c.args.bytes.now c.args.self.now.bytes.items c.push-3.new.self.items c.extend_from_slice.new.self.items c.args.self.now.marks.items c.push.new.self.items c.push-2.new.self.items c.resize.new.self.items c.len.result r t c.in_ok-push-3.ensures.items c.in_ok-extend_from_slice.ensures.items c.in_ok-push.ensures.items c.in_ok-push-2.ensures.items n k
