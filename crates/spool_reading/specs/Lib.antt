pub mod StoredChanges
pub mod Sorted
pub mod Sorting
pub mod Laws
