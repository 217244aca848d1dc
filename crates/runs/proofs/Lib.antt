mod Aims
mod Judged
mod Steps
