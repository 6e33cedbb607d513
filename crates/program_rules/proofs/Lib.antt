mod Lines
mod Places
