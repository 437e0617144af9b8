-- What a reader of lines has given of its input, after any number of calls.
use Rattle.std.specs.Prelude.{◌≡◌, ℕ, ◌+◌, ◌≤◌, List, length, take, Option}
use Rattle.line_io.specs.Reading.{Reading, bytes_ahead}
use Rattle.line_io.specs.Ahead.{Reads, TakesAll}

-- these lines were given of the bytes taken, as far as the budget goes, since the source had `first` left; no more lines than bytes
pub record Progress (limit budget : ℕ) (first left : Option (List ℕ)) (gave : List (Option (List ℕ))) (r : Reading) : Type 0 where
  pub taken : List ℕ
  pub source : TakesAll first left taken r.ended
  pub limit_is : r.limit ≡ limit
  pub spent : length taken + r.room ≡ budget + 1
  pub reads : Reads limit (take budget taken) gave r.unread r.ended
  pub fewer : length gave + bytes_ahead r ≤ budget
