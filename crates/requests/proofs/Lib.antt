mod Gathering
mod Sources
mod Chains
mod Leaving
mod Standing
