pub mod UuidText
