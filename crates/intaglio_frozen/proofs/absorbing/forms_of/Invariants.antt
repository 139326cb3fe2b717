-- The forms so far are those of the first strings.
use Rattle.std.proofs.Common.{◌≡◌, ◌≤◌, length, map, take, vec_len, vec_capacity, sum_by}
use Rattle.intaglio_frozen.proofs.absorbing.forms_of.Given as goal

abbrev pub invariant-loop-i : goal.invariant-loop-i
invariant-loop-i g l = record {
  forms : map g.C.Form.CopiedTo.form_spelling l.forms.items ≡ take l.i (g.L.StringList.strings l.list);
  needs : sum_by g.C.Form.AddedTo.needs l.forms.items
      ≤ sum_by length (take l.i (g.L.StringList.strings l.list));
  count : vec_len l.forms ≡ l.i;
  room : length (g.L.StringList.strings l.list) ≤ vec_capacity l.forms;
}
