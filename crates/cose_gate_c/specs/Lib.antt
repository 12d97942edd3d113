pub mod Keeping
pub mod KeyParts
pub mod Places
pub mod RuledAsking
pub mod StreamAsking
pub mod Streaming
pub mod Tokens
