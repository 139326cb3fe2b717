-- The table has as many strings as keys were read. If the next key adds none, it was there, at an earlier
-- position. Otherwise the table holds it too.
use Rattle.std.proofs.lemmas.Grind.{common_steps}
use Rattle.std.proofs.Common.{◌≡◌, ◌≢◌, ◌<◌, arith, sym, ◌∙◌, map, length, List, [], ℕ, Bor}
use Rattle.std.proofs.lemmas.List.{get_or-map, length-map, take_all}
use Rattle.example_records.proofs.Repeats.{repeats, held-too, texts-distinct}
use Rattle.example_records.proofs.repeat.first_repeat.Goals as goal

pub returns-then-len-held : goal.returns-then-len-held
returns-then-len-held c =
    let texts : List (List ℕ) = map (λ (key : Bor (List ℕ)). key.now) c.args.keys.now in
    let size : length texts ≡ length c.args.keys.now =
    length-map c.args.keys.now (λ (key : Bor (List ℕ)). key.now) in
    let within : c.loop-key.key-index < length texts = rw size c.loop-key-test.true in
    let here = get_or-map (λ (key : Bor (List ℕ)). key.now) c.args.keys.now c.loop-key.key-index
    (record { ref_ptr = (0, 0); now = [] }) [] c.loop-key-test.true in
    let same : length c.get_or_intern.new.self.state.contents ≡ length c.loop-key.table.state.contents =
    sym c.len.ensures.count ∙ c.if-len-held.true ∙ c.len-held.ensures.count in
    rw c.len-held.ensures.count (repeats c.loop-key.table.state c.get_or_intern.new.self.state texts
    c.loop-key.key-index c.in_ok-_symbol._symbol _ within here c.loop-key.invariant.held
    c.in_ok-_symbol.ensures.step c.loop-key.invariant.valid same)

pub loop-key-preserved : goal.loop-key-preserved
loop-key-preserved c =
    let texts : List (List ℕ) = map (λ (key : Bor (List ℕ)). key.now) c.args.keys.now in
    let size : length texts ≡ length c.args.keys.now =
    length-map c.args.keys.now (λ (key : Bor (List ℕ)). key.now) in
    let within : c.loop-key.key-index < length texts = rw size c.loop-key-test.true in
    let here = get_or-map (λ (key : Bor (List ℕ)). key.now) c.args.keys.now c.loop-key.key-index
    (record { ref_ptr = (0, 0); now = [] }) [] c.loop-key-test.true in
    let other : length c.get_or_intern.new.self.state.contents ≢ length c.loop-key.table.state.contents =
    (λ e. c.if-len-held.false (c.len.ensures.count ∙ e ∙ sym c.len-held.ensures.count)) in
    record {
      held = held-too c.loop-key.table.state c.get_or_intern.new.self.state texts c.loop-key.key-index
          c.in_ok-_symbol._symbol _ within here c.loop-key.invariant.held c.in_ok-_symbol.ensures.step other;
      valid = c.in_ok-_symbol.ensures.valid;
    }

pub returns : goal.returns
returns c = grind (arith, common_steps, length-map, texts-distinct, take_all)
