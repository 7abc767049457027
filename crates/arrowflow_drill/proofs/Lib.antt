mod Streams
mod Inputs
mod Lined
mod Reported
