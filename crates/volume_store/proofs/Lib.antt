pub mod Numbers
pub mod Transfers
pub mod OnTheWay
pub mod Carried
pub mod Tied
pub mod Batches
pub mod Opened
pub mod GoingOn
