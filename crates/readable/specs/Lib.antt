pub mod Lookup
pub mod LookupOf
pub mod Entries
pub mod Readable
pub mod Labels
pub mod OwnLabels
