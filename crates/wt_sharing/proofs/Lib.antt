mod PartLaws
mod Flight
