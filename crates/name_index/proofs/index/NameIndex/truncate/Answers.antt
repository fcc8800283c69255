use Rattle.std.proofs.Common.{rules, ℕ, ◌≡◌, ◌<◌, ◌≤◌, [], ◌∷◌, ◌++◌, List, length, take, None, cond, ap, arith, sym, ◌∙◌, subst}
use Rattle.std.proofs.lemmas.List.{take-append-le}
use Rattle.std.proofs.lemmas.Map.Text.{hash_map_updates_text}
use Rattle.std.specs.HashMap.{get_by_text}
use Rattle.std.specs.Str.{bytes_eq}
use Rattle.list_words.proofs.GetLemmas.{length_more}
use Rattle.name_index.specs.Indexed.{IsIndexed}
use Rattle.name_index.proofs.IndexedLemmas.{indexed_less}
use Rattle.name_index.proofs.index.NameIndex.truncate.Goals as goal

-- the last name, which is past the first `count`, goes out of the list and of the map
pub loop-self-preserved-in-Some : goal.loop-self-preserved-in-Some
loop-self-preserved-in-Some c =
    let name = c.in-Some.name in
    let count = c.args.count in
    let before = c.loop-self.self-inside in
    let left = c.pop.new.self.items in
    let items : before.names.items ≡ left ++ name ∷ [] = search rules in
    let text : c.as_str.result.now ≡ name = search rules in
    let longer : count < length before.names.items = search rules in
    let room : count ≤ length left = omega (arith, longer, ap length items, length_more left name) in
    let sets = hash_map_updates_text c.as_str.result.now before.places c.remove.new.self None c.remove.ensures.updates in
    let taken : (q : List ℕ) → get_by_text c.remove.new.self q ≡ cond (bytes_eq name q) None (get_by_text before.places q) = rw text at sets in (
      indexed_less left name before.places c.remove.new.self (subst (λ xs. IsIndexed xs before.places) items c.loop-self.invariant.0) taken,
      sym (take-append-le count left (name ∷ []) room) ∙ ap (take count) (sym items) ∙ c.loop-self.invariant.1,
    )
