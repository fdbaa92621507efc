mod Texts
mod Finding
mod Tests
mod KindLaws
mod OrderLaws
mod PredicateLaws
mod WidthLaws
mod RegularLaws
