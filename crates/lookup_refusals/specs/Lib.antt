pub mod LookupRefusals
