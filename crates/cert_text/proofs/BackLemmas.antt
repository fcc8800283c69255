-- The text that is written for a certificate stands for it.
use Rattle.std.proofs.Common.{ℕ, ◌≡◌, ◌+◌, ◌<◌, ◌≤◌, ◌^◌, ◌∙◌, true, false, List, [], ◌∷◌, ◌++◌, append_assoc, append-nil, length, map}
use Rattle.std.proofs.Common.{refl, sym, ap, subst, arith, eqb, ltb}
use Rattle.std.specs.Prelude.{fold, not}
use Rattle.std.proofs.lemmas.Bool.{ne_eqb, false≢true}
use Rattle.std.proofs.lemmas.Bool.Decides.{nat_tests}
use Rattle.std.proofs.lemmas.Slice.Eq.{bytes_eq-Decides}
use Rattle.list_words.specs.Lists.{Each}
use Rattle.list_words.proofs.TestLemmas.{and_both}
use Rattle.list_words.proofs.GetLemmas.{get_at}
use Rattle.list_words.proofs.EachLemmas.{each_at, each_append, each_both, each_weaker}
use Rattle.role_order.specs.Names.{is_name, is_reserved, is_role_name, name_at}
use Rattle.role_order.specs.Refusals.{AreNames}
use Rattle.role_order.specs.Roles.{with_role, IsIn, AreBelow, Rises}
use Rattle.role_order.proofs.NameLemmas.{place_of-found}
use Rattle.arbac_policy.specs.declared.act.Act.{Act}
use Rattle.arbac_laws.specs.Needs.{Need}
use Rattle.arbac_laws.specs.Obligations.{assigns, revokes, flat}
use Rattle.arbac_laws.specs.Recorded.{Origin, of_goal, of_parent, Entry}
use Rattle.cond_text.specs.Cuts.{IsName}
use Rattle.cond_text.specs.Named.{Names, NameEach, NamesSet, set_of}
use Rattle.cert_text.specs.Certificates.{Certificate, reachable, unreachable, undecided, IsWritten, IsKnownOrigin, IsWrittenEntry, IsCertificate}
use Rattle.cert_text.specs.LineForms.{LineForm, a_start, an_act, a_next}
use Rattle.cert_text.specs.LineForms.{IsWrittenOrigin, IsNameList, IsWellFormed}
use Rattle.cert_text.specs.Drafts.{Draft, nothing, plan, list, steps, last, Adds, AddAll, in_last, with_user, with_step_user, IsWhole, StandsFor}
use Rattle.cert_text.specs.Drafts.{NamesAct, NamesOrigin, NameSets, NamesNeed}
use Rattle.cert_text.specs.Texts.{written_act, written_origin, set_names, user_form, need_lines, step_lines, certificate_lines, certificate_text}
use Rattle.cert_text.specs.Sizes.{IsSizedAct, IsSizedOrigin, HasSets, IsSizedEntry, IsSized}
use Rattle.cert_text.proofs.FeedLemmas.{split_text}
use Rattle.cert_text.proofs.PutLemmas.{each_below}

-- ---- lists

-- a role above all others of a set comes behind them
with_greatest : (set : List ℕ) (role : ℕ) → Each (λ x. x < role) set → with_role set role ≡ set ++ role ∷ []
with_greatest [] role h = refl
with_greatest (x ∷ xs) role h =
    let first = h.0 in
    let below : ltb role x ≡ false = grind (arith, nat_tests) in
    let other : eqb x role ≡ false = ne_eqb x role (λ e. omega (arith, first)) in
    rw (below, other) (ap (λ t. x ∷ t) (with_greatest xs role h.1))

-- roles that rise, and stand above those of the set
set_behind : (set roles : List ℕ) → Rises roles → Each (λ role. Each (λ x. x < role) set) roles → fold with_role set roles ≡ set ++ roles
set_behind set [] rises above = sym (append-nil set)
set_behind set (role ∷ roles) rises above =
    ap (λ (t : List ℕ). fold with_role t roles) (with_greatest set role above.0)
    ∙ set_behind (set ++ role ∷ []) roles rises.1
    (each_weaker (λ r. (role < r) × Each (λ x. x < r) set) (λ r. Each (λ x. x < r) (set ++ role ∷ []))
    (λ r h. each_append (λ x. x < r) set (role ∷ []) h.1 (h.0, tt)) roles
    (each_both (λ r. role < r) (λ r. Each (λ x. x < r) set) roles rises.0 above.1))
    ∙ append_assoc set (role ∷ []) roles

none_before : (roles : List ℕ) → Each (λ role. Each (λ x. x < role) []) roles
none_before [] = tt
none_before (role ∷ roles) = (tt, none_before roles)

-- a rising list is the set of its roles
rising_set : (set : List ℕ) → Rises set → set_of set ≡ set
rising_set set h = set_behind [] set h (none_before set)

-- the item behind all others is changed
in_last_end : {A : Type 0} (change : A → A) (xs : List A) (x : A) → in_last change (xs ++ x ∷ []) ≡ xs ++ change x ∷ []
in_last_end change [] x = refl
in_last_end change (y ∷ []) x = refl
in_last_end change (y ∷ z ∷ zs) x = ap (λ l. y ∷ l) (in_last_end change (z ∷ zs) x)

some_last : {A : Type 0} (xs : List A) (x : A) → 1 ≤ length (xs ++ x ∷ [])
some_last [] x = omega arith
some_last (y ∷ ys) x = omega arith

role_name : (text : List ℕ) → is_role_name text ≡ true → IsName text
unfolding is_role_name
role_name text h = (and_both (is_name text) (not (is_reserved text)) h).0

-- the user requirement can be written, and its sets rise
abbrev IsUser : ℕ → Need → Type 0
IsUser count need = IsWritten count need × HasSets need

-- the step's origin is known, and its users are such
record IsStep (count : ℕ) (entry : Entry) : Type 0 where
  origin : IsKnownOrigin count entry.origin
  users : Each (IsUser count) entry.needs

-- what the lines of a certificate come to
abbrev whole : Certificate → Draft
whole (reachable start acts) = plan start acts
whole (unreachable needs) = list needs
whole (undecided limit recorded next) = last limit recorded next

is_whole : (cert : Certificate) → IsWhole (whole cert) cert
is_whole (reachable start acts) = refl
is_whole (unreachable needs) = refl
is_whole (undecided limit recorded next) = refl

module _ (names : List (List ℕ)) (ok : AreNames names) where
  -- ---- names

  a_name : (role : ℕ) → role < length names → IsName (name_at names role)
  a_name role h =
      role_name (name_at names role)
      (each_at (λ text. is_role_name text ≡ true) names role (name_at names role) ok.named (get_at names role [] h))

  named : (role : ℕ) → role < length names → Names names (name_at names role) role
  named role h =
      place_of-found names role (name_at names role) ok.different h ((bytes_eq-Decides (name_at names role) (name_at names role)).1 refl)

  names_formed : (set : List ℕ) → Each (λ role. role < length names) set → Each IsName (set_names names set)
  names_formed [] h = tt
  names_formed (role ∷ roles) h = (a_name role h.0, names_formed roles h.1)

  set_named : (set : List ℕ) → Each (λ role. role < length names) set → NameEach names (set_names names set) set
  set_named [] h = refl
  set_named (role ∷ roles) h = (role, roles, named role h.0, set_named roles h.1, refl)

  a_set : (set : List ℕ) → AreBelow (length names) set → Rises set → NamesSet names (set_names names set) set
  a_set set h rises = record {
    roles = set;
    named = set_named set (each_below (length names) set h);
    set_is = sym (rising_set set rises);
  }

  are_sets : (sets : List (List ℕ)) → Each (AreBelow (length names)) sets → Each Rises sets → NameSets names (map (set_names names) sets) sets
  are_sets [] h rise = refl
  are_sets (set ∷ sets) h rise = (set, sets, a_set set h.0 rise.0, are_sets sets h.1 rise.1, refl)

  -- ---- one line

  some_name : (hit : List ℕ) → ((role : ℕ) × IsIn hit role) → 1 ≤ length (set_names names hit)
  some_name [] h = absurd (false≢true h.1)
  some_name (x ∷ xs) h = omega arith

  hits_formed : (hits : List (List ℕ)) → Each (AreBelow (length names)) hits → Each (λ hit. (role : ℕ) × IsIn hit role) hits
      → Each IsNameList (map (set_names names) hits)
  hits_formed [] h filled = tt
  hits_formed (hit ∷ hits) h filled = (
    record { some = some_name hit filled.0; each = names_formed hit (each_below (length names) hit h.0) },
    hits_formed hits h.1 filled.1,
  )

  user_formed : (need : Need) → IsWritten (length names) need → IsWellFormed (user_form names need)
  user_formed need h =
      (hits_formed need.hits h.hits h.filled, names_formed need.lacks (each_below (length names) need.lacks h.lacks))

  user_named : (need : Need) → IsWritten (length names) need → HasSets need
      → NamesNeed names (map (set_names names) need.hits) (set_names names need.lacks) need
  user_named need h sets = record {
    hits_are = are_sets need.hits h.hits sets.hits;
    lacks_are = a_set need.lacks h.lacks sets.lacks;
  }

  act_named : (act : Act) → act.role < length names → NamesAct names (written_act names act) act
  act_named act h = record { kind = refl; admin = refl; target = refl; role = named act.role h }

  origin_formed : (origin : Origin) → IsKnownOrigin (length names) origin → IsSizedOrigin origin → IsWrittenOrigin (written_origin names origin)
  origin_formed (of_goal place) h sized = sized
  origin_formed (of_parent parent (assigns rule conjunct role target pick)) h sized = (sized.0, sized.1, sized.2, a_name role h, sized.3, sized.4)
  origin_formed (of_parent parent (revokes rule role target pick)) h sized = (sized.0, sized.1, a_name role h, sized.2, sized.3)

  origin_named : (origin : Origin) → IsKnownOrigin (length names) origin → NamesOrigin names (written_origin names origin) origin
  origin_named (of_goal place) h = refl
  origin_named (of_parent parent (assigns rule conjunct role target pick)) h = (role, named role h, refl)
  origin_named (of_parent parent (revokes rule role target pick)) h = (role, named role h, refl)

  -- ---- each line is well formed

  users_formed : (needs : List Need) → Each (IsWritten (length names)) needs → Each IsWellFormed (map (user_form names) needs)
  users_formed [] h = tt
  users_formed (need ∷ needs) h = (user_formed need h.0, users_formed needs h.1)

  starts_formed : (start : List ℕ) → Each (λ profile. profile < 2 ^ 32) start → Each IsWellFormed (map a_start start)
  starts_formed [] sized = tt
  starts_formed (profile ∷ start) sized = (sized.0, starts_formed start sized.1)

  acts_formed : (acts : List Act) → Each (λ (act : Act). act.role < length names) acts → Each IsSizedAct acts
      → Each IsWellFormed (map (λ act. an_act (written_act names act)) acts)
  acts_formed [] h sized = tt
  acts_formed (act ∷ acts) h sized = ((sized.0.0, sized.0.1, a_name act.role h.0), acts_formed acts h.1 sized.1)

  needs_formed : (needs : List (List Need)) → Each (Each (IsWritten (length names))) needs → Each IsWellFormed (flat (need_lines names) needs)
  needs_formed [] h = tt
  needs_formed (users ∷ needs) h = (
    tt,
    each_append IsWellFormed (map (user_form names) users) (flat (need_lines names) needs) (users_formed users h.0) (needs_formed needs h.1),
  )

  steps_formed : (recorded : List Entry) → Each (IsWrittenEntry (length names)) recorded → Each IsSizedEntry recorded
      → Each IsWellFormed (flat (step_lines names) recorded)
  steps_formed [] h sized = tt
  steps_formed (entry ∷ recorded) h sized = (
    origin_formed entry.origin h.0.origin sized.0.origin,
    each_append IsWellFormed (map (user_form names) entry.needs) (flat (step_lines names) recorded)
        (users_formed entry.needs h.0.needs) (steps_formed recorded h.1 sized.1),
  )

  formed : (cert : Certificate) → IsCertificate (length names) cert → IsSized cert → Each IsWellFormed (certificate_lines names cert)
  formed (reachable start acts) h sized = (
    tt,
    each_append IsWellFormed (map a_start start) (map (λ act. an_act (written_act names act)) acts)
        (starts_formed start sized.0) (acts_formed acts h sized.1),
  )
  formed (unreachable needs) h sized = (tt, needs_formed needs h)
  formed (undecided limit recorded next) h sized = (
    (h.0, h.1),
    each_append IsWellFormed (flat (step_lines names) recorded) (a_next (written_origin names next.origin) ∷ map (user_form names) next.needs)
        (steps_formed recorded h.3 sized.0)
        (origin_formed next.origin h.4.origin sized.1.origin, users_formed next.needs h.4.needs),
  )

  -- ---- the lines make the certificate

  add_append : (draft mid end : Draft) (xs ys : List LineForm) → AddAll names draft xs mid → AddAll names mid ys end
      → AddAll names draft (xs ++ ys) end
  add_append draft mid end [] ys a b = subst (λ (d : Draft). AddAll names d ys end) a b
  add_append draft mid end (x ∷ xs) ys a b = (a.0, a.1, add_append a.0 mid end xs ys a.2 b)

  starts_added : (before start : List ℕ) → AddAll names (plan before []) (map a_start start) (plan (before ++ start) [])
  starts_added before [] = ap (λ (l : List ℕ). plan l []) (append-nil before)
  starts_added before (profile ∷ start) = (
    plan (before ++ profile ∷ []) [],
    record { place = refl; extends = refl },
    subst (λ (l : List ℕ). AddAll names (plan (before ++ profile ∷ []) []) (map a_start start) (plan l []))
        (append_assoc before (profile ∷ []) start) (starts_added (before ++ profile ∷ []) start),
  )

  acts_added : (start : List ℕ) (before acts : List Act) → Each (λ (act : Act). act.role < length names) acts
      → AddAll names (plan start before) (map (λ act. an_act (written_act names act)) acts) (plan start (before ++ acts))
  acts_added start before [] h = ap (λ (l : List Act). plan start l) (append-nil before)
  acts_added start before (act ∷ acts) h = (
    plan start (before ++ act ∷ []),
    record { place = tt; extends = (act, act_named act h.0, refl) },
    subst (λ (l : List Act). AddAll names (plan start (before ++ act ∷ [])) (map (λ a. an_act (written_act names a)) acts) (plan start l))
        (append_assoc before (act ∷ []) acts) (acts_added start (before ++ act ∷ []) acts h.1),
  )

  -- lines of users behind the users so far, where each such line adds its user
  users_added : (draft : List Need → Draft)
      → ((users : List Need) (need : Need) → IsUser (length names) need → Adds names (draft users) (user_form names need) (draft (users ++ need ∷ [])))
      → (users needs : List Need) → Each (IsUser (length names)) needs → AddAll names (draft users) (map (user_form names) needs) (draft (users ++ needs))
  users_added draft adds users [] h = ap draft (append-nil users)
  users_added draft adds users (need ∷ needs) h = (
    draft (users ++ need ∷ []),
    adds users need h.0,
    subst (λ (l : List Need). AddAll names (draft (users ++ need ∷ [])) (map (user_form names) needs) (draft l))
        (append_assoc users (need ∷ []) needs) (users_added draft adds (users ++ need ∷ []) needs h.1),
  )

  needs_added : (before needs : List (List Need)) → Each (Each (IsUser (length names))) needs
      → AddAll names (list before) (flat (need_lines names) needs) (list (before ++ needs))
  needs_added before [] h = ap list (append-nil before)
  needs_added before (users ∷ needs) h =
      let one : List Need → Draft = λ us. list (before ++ us ∷ []) in
      add_append (list before) (one users) (list (before ++ (users ∷ needs))) (need_lines names users) (flat (need_lines names) needs) (
        one [],
        record { place = tt; extends = refl },
        users_added one (λ us need k. record {
          place = some_last before us;
          extends = (need, user_named need k.0 k.1, ap list (sym (in_last_end (with_user need) before us)));
        })
            [] users h.0,
      ) (subst (λ (l : List (List Need)). AddAll names (one users) (flat (need_lines names) needs) (list l)) (append_assoc before (users ∷ []) needs)
      (needs_added (before ++ users ∷ []) needs h.1))

  steps_added : (limit : ℕ) (before recorded : List Entry) → Each (IsStep (length names)) recorded
      → AddAll names (steps limit before) (flat (step_lines names) recorded) (steps limit (before ++ recorded))
  steps_added limit before [] h = ap (λ (l : List Entry). steps limit l) (append-nil before)
  steps_added limit before (entry ∷ recorded) h =
      let step : List Need → Entry = λ us. record { origin = entry.origin; needs = us } in
      let one : List Need → Draft = λ us. steps limit (before ++ step us ∷ []) in
      add_append (steps limit before) (one entry.needs) (steps limit (before ++ (entry ∷ recorded))) (step_lines names entry)
      (flat (step_lines names) recorded) (
        one [],
        record { place = tt; extends = (entry.origin, origin_named entry.origin h.0.origin, refl) },
        users_added one (λ us need k. record {
          place = some_last before (step us);
          extends = (need, user_named need k.0 k.1, ap (λ (l : List Entry). steps limit l) (sym (in_last_end (with_step_user need) before (step us))));
        })
            [] entry.needs h.0.users,
      ) (subst (λ (l : List Entry). AddAll names (one entry.needs) (flat (step_lines names) recorded) (steps limit l))
      (append_assoc before (entry ∷ []) recorded) (steps_added limit (before ++ entry ∷ []) recorded h.1))

  next_added : (limit : ℕ) (recorded : List Entry) (next : Entry) → 1 ≤ length recorded → IsStep (length names) next
      → AddAll names (steps limit recorded) (a_next (written_origin names next.origin) ∷ map (user_form names) next.needs) (last limit recorded next)
  next_added limit recorded next some h =
      let one : List Need → Draft = λ us. last limit recorded (record { origin = next.origin; needs = us }) in (
        one [],
        record { place = some; extends = (next.origin, origin_named next.origin h.origin, refl) },
        users_added one (λ us need k. record { place = tt; extends = (need, user_named need k.0 k.1, refl) }) [] next.needs h.users,
      )

  are_users : (needs : List Need) → Each (IsWritten (length names)) needs → Each HasSets needs → Each (IsUser (length names)) needs
  are_users needs h sets = each_both (IsWritten (length names)) HasSets needs h sets

  are_needs : (needs : List (List Need)) → Each (Each (IsWritten (length names))) needs → Each (Each HasSets) needs
      → Each (Each (IsUser (length names))) needs
  are_needs [] h sets = tt
  are_needs (users ∷ needs) h sets = (are_users users h.0 sets.0, are_needs needs h.1 sets.1)

  a_step_of : (entry : Entry) → IsWrittenEntry (length names) entry → IsSizedEntry entry → IsStep (length names) entry
  a_step_of entry h sized = record { origin = h.origin; users = are_users entry.needs h.needs sized.needs }

  are_steps : (recorded : List Entry) → Each (IsWrittenEntry (length names)) recorded → Each IsSizedEntry recorded → Each (IsStep (length names)) recorded
  are_steps [] h sized = tt
  are_steps (entry ∷ recorded) h sized = (a_step_of entry h.0 sized.0, are_steps recorded h.1 sized.1)

  added : (cert : Certificate) → IsCertificate (length names) cert → IsSized cert → AddAll names nothing (certificate_lines names cert) (whole cert)
  added (reachable start acts) h sized = (
    plan [] [],
    record { place = tt; extends = refl },
    add_append (plan [] []) (plan start []) (plan start acts) (map a_start start) (map (λ act. an_act (written_act names act)) acts)
        (starts_added [] start) (acts_added start [] acts h),
  )
  added (unreachable needs) h sized = (list [], record { place = tt; extends = refl }, needs_added [] needs (are_needs needs h sized))
  added (undecided limit recorded next) h sized = (
    steps limit [],
    record { place = tt; extends = refl },
    add_append (steps limit []) (steps limit recorded) (last limit recorded next) (flat (step_lines names) recorded)
        (a_next (written_origin names next.origin) ∷ map (user_form names) next.needs)
        (steps_added limit [] recorded (are_steps recorded h.3 sized.0)) (next_added limit recorded next h.2 (a_step_of next h.4 sized.1)),
  )

  -- the text of a certificate that can be written stands for it
  pub text_stands : (cert : Certificate) → IsCertificate (length names) cert → IsSized cert → StandsFor names (certificate_text names cert) cert
  text_stands cert h sized = record {
    draft = whole cert;
    number = 2 + length (certificate_lines names cert);
    read = record {
      lines = certificate_lines names cert;
      formed = formed cert h sized;
      text = split_text names cert (formed cert h sized);
      added = added cert h sized;
      number_is = refl;
    };
    whole = is_whole cert;
  }
