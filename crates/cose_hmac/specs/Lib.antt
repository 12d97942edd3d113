pub mod Hmac
pub mod Once
pub mod View
