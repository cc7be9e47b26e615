mod Kept
mod Moments
mod RecordsNext
mod RecordsRead
mod RecordsWritten
mod Settled
