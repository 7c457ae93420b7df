-- The laws of this crate that others cite. Assumes nothing.
pub mod RulesLaws
pub mod SaidLaws
pub mod TableLaws
pub mod RoomLaws
pub mod AnsweredLaws
