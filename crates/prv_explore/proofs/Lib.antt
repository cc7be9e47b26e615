pub mod Grown
pub mod Turning
pub mod UnderWay
