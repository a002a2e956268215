pub mod Passing
pub mod Steps
pub mod Stages
mod Finding
mod Lines
mod Readings
pub mod Counting
mod Adding
mod Naming
mod NumberingLines
mod Numbering
mod Signalling
pub mod Shortening
pub mod Messaging
mod Declaring
mod ReferencesTerms
mod ReferencesLines
pub mod References
mod VariablesUsedWords
mod VariablesUsedNotes
mod VariablesUsedLines
mod VariablesUsed
mod PlacesWithin
mod PlacesLexed
mod PlacesTerms
mod PlacesUsages
mod Places
pub mod Claiming
