use Rattle.std.proofs.Common.{◌≡◌, ℕ, suc, List, [], ◌∷◌, ◌++◌, map, ap, ◌∙◌}
use Rattle.std.specs.Prelude.{unwrap_or}
use Rattle.raft_types.specs.declared.item.Item.TheVariants.{Vote}
use Rattle.raft_types.specs.Items.{number}
use Rattle.raft_durable.specs.Bytes.{item_bytes}
use Rattle.raft_durable.specs.Stores.{snap_bytes}
use Rattle.raft_durable.proofs.Pushing.{three_parts}
use Rattle.raft_durable.proofs.kept.Kept.items.Goals as goal

pub returns : goal.returns
returns c =
    let k = c.args.self.now in
    let s : List ℕ = unwrap_or k.snapshot [] in
    let items = number (suc k.log.base) k.log.entries in
    let first : c.in_ok-items.items.items ≡ snap_bytes k.snapshot k.log = c.in_ok-items.ensures in
    let vote : c.in_ok-vote_bytes.field-0 ≡ item_bytes [] (Vote k.term k.vote) = c.in_ok-vote_bytes.ensures in
    let two : c.push.new.self.items ≡ snap_bytes k.snapshot k.log ++ item_bytes [] (Vote k.term k.vote) ∷ []
    = c.in_ok-push.ensures.items ∙ (ap (λ (y : List ℕ). c.in_ok-items.items.items ++ y ∷ []) vote ∙ ap (λ (xs : List (List ℕ)). xs ++ item_bytes [] (Vote k.term k.vote) ∷ []) first) in
    c.in_ok-push_entries.ensures s ∙ (ap (λ (xs : List (List ℕ)). xs ++ map (item_bytes s) items) two ∙ three_parts k.snapshot k.log k.term k.vote items)
