mod LengthTable
pub mod Counting
mod Steps
pub mod Laid
mod Plays
pub mod Entering
pub mod Stands
pub mod Fields
pub mod Places
pub mod Forth
pub mod KnownPairs
pub mod KnownBlocks
pub mod KnownEntries
pub mod Long
pub mod ForthBlocks
pub mod KnownArchive
pub mod OneForm
pub mod RowLaws
