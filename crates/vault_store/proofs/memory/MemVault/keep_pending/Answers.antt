use Rattle.std.proofs.Common.{◌≡◌, length, drop, rules}
use Rattle.vault_store.proofs.Keeping.{kept_front, held_of}
use Rattle.vault_store.specs.Vaults.{powered_off}
use Rattle.vault_store.proofs.memory.MemVault.keep_pending.Goals as goal

pub returns : goal.returns
returns c =
    let at = c.self.inside in
    let all : c.len-self-inside.result ≡ length c.keep_front.new.items.items = search rules in
    let kept : held_of c.len-self-inside.result c.keep_front.new.items.items ≡ powered_off c.args.keep (held_of at.synced at.items.items)
    = kept_front at.synced c.args.keep c.len-self-inside.result at.items.items c.keep_front.new.items.items c.keep_front.ensures all in
    rw (← c.self.view_is) (λ i. record { held = kept i; calls = at.calls; faults = at.faults; fails = at.fails.items; keeps = drop at.stops at.keeps.items })
