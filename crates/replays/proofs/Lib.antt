mod Places
mod Tying
mod Looking
mod Agreement
mod Opening
