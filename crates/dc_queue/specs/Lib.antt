pub mod QueueData
pub mod WindowData
