-- Names that an attribute can say. Assumes nothing.
pub use Rattle.reflection.proofs.Sum.{⊞_comm as sum_comm}
