use Rattle.std.proofs.Common.{ap, ◌∙◌}
use Rattle.khepri_types.specs.ReadingOut.{spelled_reply}
use Rattle.khepri_types.proofs.SpellingOut.{spelled_reply-takes, spelled_reply-again}
use Rattle.khepri_types.proofs.spellings.reply_spelling.Goals as goal

pub returns : goal.returns
returns c = λ text r. (spelled_reply-takes text r, λ h. ap spelled_reply h.0 ∙ spelled_reply-again r h.1)
