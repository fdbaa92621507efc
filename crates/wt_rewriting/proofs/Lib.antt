pub mod Files
pub mod Lining
pub mod Giving
pub mod SameRules
pub mod Beginning
pub mod Statuses
