mod Sent
mod Writing
mod Showing
mod Checking
mod Adding
mod SchemaWritten
mod ReadBack
