use Rattle.std.proofs.Common.{rules, ℕ, ◌≡◌, [], ◌∷◌, ◌++◌, List, length, Some, cond, subst}
use Rattle.std.proofs.lemmas.Map.Text.{hash_map_updates_text}
use Rattle.std.specs.HashMap.{get_by_text}
use Rattle.std.specs.Str.{bytes_eq}
use Rattle.std.specs.String.{string_bytes}
use Rattle.name_index.specs.Indexed.{IsIndexed}
use Rattle.name_index.proofs.IndexedLemmas.{indexed_more}
use Rattle.name_index.proofs.index.NameIndex.add.Goals as goal

-- the name's place is put into the map under the name's text
pub invariant_of-self-2 : goal.invariant_of-self-2
invariant_of-self-2 c =
    let name = c.args.name in
    let names = c.args.self.now in
    let old = c.self.inside.places in
    let text : string_bytes c.in_ok-text.text ≡ name = search rules in
    let place : c.len.result ≡ length names = search rules in
    let items : c.push_reserved.new.self.items ≡ names ++ name ∷ [] = search rules in
    let same : c.self.inside.names.items ≡ names = search rules in
    let sets = hash_map_updates_text (string_bytes c.in_ok-text.text) old c.insert.new.self _ c.in_ok-insert.ensures.updates in
    let put : (q : List ℕ) → get_by_text c.insert.new.self q ≡ cond (bytes_eq name q) (Some (length names)) (get_by_text old q) =
    rw (text, place) at sets in
    rw items (indexed_more names name old c.insert.new.self (subst (λ xs. IsIndexed xs old) same c.self.invariant) c.requires.new c.requires.room put)
