pub mod ReplyRows
pub mod HandedRows
pub mod RecordRows
pub mod AccountRows
pub mod ServedRows
