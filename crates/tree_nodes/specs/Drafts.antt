-- What a draft shows.
pub use Rattle.tree_overlay.specs.Over.{Drafted, is_touched, IsTouched, IsRising, StaysTouched, IsCovered, Touches, IsShallow}
