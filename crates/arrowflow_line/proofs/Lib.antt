pub mod Sized
mod Asked
mod Named
mod Steps
mod Program
