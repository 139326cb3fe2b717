-- The slots that the search gives are a permutation of those of the entries of class and tag. So each leads
-- to a record, and each number with the hash is among them once (`all-found`).
use Rattle.std.proofs.Common.{◌≤◌, ◌^◌, length, map, refl, arith, ap}
use Rattle.intaglio_records.proofs.Names.{concat, length-map, All-permutation, IsFilled, candidates, slots_of, pair_of, entries, IsSlot, begin_of, numbers_with}
use Rattle.intaglio_records.proofs.EntryLemmas.{entries-all}
use Rattle.intaglio_records.proofs.MatchLemmas.{all-found, slots-all}
use Rattle.intaglio_records.proofs.RecordLemmas.{are-long}
use Rattle.intaglio_records.proofs.index.RecordIndex.matches.Goals as goal

pub returns : goal.returns
returns c =
    let rs = c.buffer.result.now.list in
    let each = c.buffer.ensures.each in
    let long = c.args.self.now.is_long in
    let base = c.args.self.now.lines.base in
    let hash = c.args.hash in
    let es = entries long rs (length rs) in
    let all = entries-all long _ rs c.buffer.ensures.list (are-long rs each) in
    let filled : IsFilled c.args.self.now.lines es = rw (← all) c.requires.filled in
    let slots = candidates base hash es in
    let perm = c.find-candidates.ensures.found es filled in
    let few : length rs ≤ 2 ^ 32 =
    omega (arith, ap length c.buffer.ensures.list, length-map rs pair_of, c.requires.within, c.requires.places, c.requires.filled.small) in
    rw (← c.buffer.ensures.list) (
      numbers_with hash (concat rs) (map (begin_of long rs) slots),
      record {
        slots = slots;
        slots_left = c.find-candidates.ensures.left es filled;
        each = each;
        few = few;
        each_slot =
            All-permutation (IsSlot long rs) (slots_of base hash es) slots perm
            (slots-all long rs base hash (length rs) (omega arith));
        list = refl;
        hash_is = refl;
        left_is = refl;
      },
      all-found long rs base hash slots each few perm,
    )
