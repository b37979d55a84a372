pub mod Count
pub mod Even
