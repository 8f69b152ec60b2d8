-- 02's scan of a damaged log, step by step (02, request 8); `salvaging` has what holds of it.
pub mod Scan
pub mod inner
