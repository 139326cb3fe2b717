-- If the records aren't short and there was no error, the index is long, and so over any room of the list.
use Rattle.std.proofs.Common.{◌≡◌, false, Ok, Err, Result, sym, ◌∙◌}
use Rattle.std.specs.Result.{is_err, OnOk}
use Rattle.intaglio_packed.proofs.Names.{true≢false, record_room_of}
use Rattle.intaglio_packed.proofs.packed_index.reach_bytes.Goals as goal

when-ok : {A E P : Type 0} (r : Result A E) → is_err r ≡ false → OnOk r P → P
when-ok (Ok x) e p = p
when-ok (Err x) e p = absurd (true≢false e)

pub returns-else-is_err-clause-over : goal.returns-else-is_err-clause-over
returns-else-is_err-clause-over g c =
    let over = when-ok c.lengthen-reached.result (sym c.is_err.ensures.value ∙ c.if-is_err.false)
    c.lengthen-reached.ensures.over in
    rw c.records-2.ensures at (over (record_room_of c.args.list.now))
