pub mod NeverNull
