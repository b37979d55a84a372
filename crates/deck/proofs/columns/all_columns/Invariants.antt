use Rattle.column_sines.specs.ColumnSines.{column_sines}
use Rattle.deck.specs.Columns.{ColumnsAre}
use Rattle.deck.proofs.columns.all_columns.Given as goal

abbrev pub invariant-loop-d : goal.invariant-loop-d
invariant-loop-d l = ColumnsAre l.deltas l.cosines column_sines l.d
