pub mod OpenLaws
pub mod RoomLaws
