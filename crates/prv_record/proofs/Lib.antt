pub mod ContentReading
pub mod Lengths
pub mod PairReading
pub mod Parting
pub mod RecordReading
pub mod Room
pub mod SecondForm
pub mod ShapeReading
mod WorkedRows
