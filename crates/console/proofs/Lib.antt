mod Fields
mod Refusing
mod Fitting
mod Replies
mod Reaching
mod Progress
mod Tables
