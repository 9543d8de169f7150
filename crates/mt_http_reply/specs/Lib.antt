pub mod Fed
pub mod Reading
pub mod ReplyText
pub mod Stream
