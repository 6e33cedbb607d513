pub mod Addresses
pub mod Guests
pub mod Networks
pub mod Proxies
pub mod Texts
