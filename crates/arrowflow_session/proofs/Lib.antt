mod Joining
mod Progressing
mod Reporting
