pub mod ExistLaws
pub mod RoomLaws
