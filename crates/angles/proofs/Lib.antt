pub mod Fourth
