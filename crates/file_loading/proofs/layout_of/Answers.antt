-- Part by part.
use Rattle.file_loading.proofs.layout_of.Goals as goal

pub returns : goal.returns
returns c = rw (
  c.core_layout-c0.ensures,
  c.core_layout-c1.ensures,
  c.core_layout-c2.ensures,
  c.core_layout-c3.ensures,
  c.byte_at.ensures,
  c.byte_at-n.ensures,
  c.record_place.ensures.0,
)
