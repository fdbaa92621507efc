mod Asking
mod Answering
mod Bounds
