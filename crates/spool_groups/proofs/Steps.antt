-- One group of a list is changed.
use Rattle.std.proofs.Common.{◌≡◌, ◌⊎◌, ℕ, zero, suc, ◌+◌, ◌<◌, ◌≤◌, List, [], ◌∷◌, ◌++◌, length, map, take, drop, get_or, set, refl, sym}
use Rattle.std.proofs.Common.{◌∙◌, ap, subst, arith, inl, inr, Bool, true, false, cond, vec_len, vec_capacity}
use Rattle.std.specs.Prelude.{Option, Some, None, Result, Ok, Err, OnOk, OnErr, bytes_eq, option_map, slice_get}
use Rattle.std.proofs.lemmas.List.{length-map, map-set, get_or-map, take_at}
use Rattle.std.proofs.lemmas.Option.{same_Some, slice_get-map}
use Rattle.model.specs.Stream.{Octets}
use Rattle.model.specs.Indexed.{GroupIndex, line_start, value_of}
use Rattle.model.proofs.Joined.{map_twice}
use Rattle.spool_groups.specs.Filing.{EndBelow, HasRoomFor, end_of, expired_once, filed_by, filed_once, with_line}
use Rattle.spool_groups.specs.Naming.{AreNamed, heads}
use Rattle.spool_groups.specs.Shown.{shown}
use Rattle.spool_groups.specs.declared.group.Group.{Group}
use Rattle.spool_groups.proofs.Naming.{Places, here, named_at, none_at, nowhere, only_at, others, within}

-- ---- by outcome

pub ok_map : {T E P Q : Type 0} (r : Result T E) → (P → Q) → OnOk r P → OnOk r Q
ok_map (Ok x) f p = f p
ok_map (Err e) f p = p

pub err_map : {T E P Q : Type 0} (r : Result T E) → (P → Q) → OnErr r P → OnErr r Q
err_map (Ok x) f p = p
err_map (Err e) f p = f p

-- ---- by name

-- the group with this name is the one that is changed
pub changed_there : (gs : List Group) (places : Places) (name : Octets) (p : ℕ) (new d : Group) (f : GroupIndex → GroupIndex)
    → AreNamed places (heads (map shown gs)) → value_of places name ≡ Some p → shown new ≡ f (shown (get_or gs p d))
    → map shown (set gs p new) ≡ map (λ i. cond (bytes_eq name i.group.name) (f i) i) (map shown gs)
changed_there gs places name p new d f named is new_is =
    let low : p < length gs = within shown gs places name p named is in
    let size : length (map shown gs) ≡ length gs = length-map gs shown in
    let count : length (heads (map shown gs)) ≡ length (map shown gs) = length-map (map shown gs) (λ (i : GroupIndex). i.group.name) in
    let at : get_or (map shown gs) p (shown d) ≡ shown (get_or gs p d) = get_or-map shown gs p d (shown d) low in
    map-set shown gs p new
    ∙ ap (set (map shown gs) p) (new_is ∙ ap f (sym at))
    ∙ only_at (λ (i : GroupIndex). bytes_eq name i.group.name) f (map shown gs) p (shown d) (omega arith)
    (ap (bytes_eq name) (sym (named_at (map shown gs) p (shown d) (omega arith))) ∙ here places (heads (map shown gs)) name p named is)
    (λ j small other. ap (bytes_eq name) (sym (named_at (map shown gs) j (shown d) small))
    ∙ others places (heads (map shown gs)) name p j named is (omega arith) other)

changed_in : (gs : List GroupIndex) (places : Places) (name : Octets) (f : GroupIndex → GroupIndex) → AreNamed places (heads gs)
    → value_of places name ≡ None → (d : GroupIndex) → map (λ i. cond (bytes_eq name i.group.name) (f i) i) gs ≡ gs
changed_in gs places name f named is d =
    none_at (λ (i : GroupIndex). bytes_eq name i.group.name) f gs d
    (λ j small. ap (bytes_eq name) (sym (named_at gs j d small))
    ∙ nowhere places (heads gs) name j named is (omega (arith, length-map gs (λ (i : GroupIndex). i.group.name))))

pub changed_nowhere : (gs : List GroupIndex) (places : Places) (name : Octets) (f : GroupIndex → GroupIndex) → AreNamed places (heads gs)
    → value_of places name ≡ None → gs ≡ map (λ i. cond (bytes_eq name i.group.name) (f i) i) gs
changed_nowhere gs places name f named is = sym (by_list gs refl) where
  by_list : (hs : List GroupIndex) → hs ≡ gs → map (λ i. cond (bytes_eq name i.group.name) (f i) i) gs ≡ gs
  by_list [] same = subst (λ (xs : List GroupIndex). map (λ i. cond (bytes_eq name i.group.name) (f i) i) xs ≡ xs) same refl
  by_list (h ∷ hs) same = changed_in gs places name f named is h

-- ---- room

set_cases : {X : Type 0} (xs : List X) (p k : ℕ) (new x : X) → slice_get (set xs p new) k ≡ Some x
    → ((k ≡ p) × (x ≡ new)) ⊎ (slice_get xs k ≡ Some x)
set_cases [] p k new x is = inr is
set_cases (y ∷ ys) zero zero new x is = inl (refl, sym (same_Some new x is))
set_cases (y ∷ ys) zero (suc k) new x is = inr is
set_cases (y ∷ ys) (suc p) zero new x is = inr is
set_cases (y ∷ ys) (suc p) (suc k) new x is =
    elim (set_cases ys p k new x is) [ inl there ↦ inl ((ap suc there.0), there.1) | inr else' ↦ inr else' ]

-- what is asked of a group's room holds where the changed one has it
pub room_set : (places : Places) (gs : List Group) (p : ℕ) (new : Group) (q : Octets) (more less : ℕ) → HasRoomFor places gs q more
    → less ≤ more → vec_len new.lines + less ≤ vec_capacity new.lines → HasRoomFor places (set gs p new) q less
room_set places gs p new q more less room order fits k g at is = elim (set_cases gs p k new g is) [
  | inl there ↦ subst (λ (h : Group). vec_len h.lines + less ≤ vec_capacity h.lines) (sym there.1) fits
  | inr before ↦ let old = room k g at before in omega (arith, old)
]

-- the changed one has it, if it is the one of this name
pub room_there : (places : Places) (gs : List Group) (p : ℕ) (new : Group) (name : Octets) (more : ℕ) → value_of places name ≡ Some p
    → p < length gs → vec_len new.lines + more ≤ vec_capacity new.lines → HasRoomFor places (set gs p new) name more
room_there places gs p new name more is low fits k g at got =
    let place : p ≡ k = same_Some p k (sym is ∙ at) in
    elim (set_cases gs p k new g got) [
      | inl there ↦ subst (λ (h : Group). vec_len h.lines + more ≤ vec_capacity h.lines) (sym there.1) fits
      | inr before ↦ subst (λ (h : Group). vec_len h.lines + more ≤ vec_capacity h.lines)
          (sym (its_own gs p new g low (subst (λ (j : ℕ). slice_get (set gs p new) j ≡ Some g) (sym place) got))) fits
    ]
  where
    its_own : (xs : List Group) (j : ℕ) (new' x : Group) → j < length xs → slice_get (set xs j new') j ≡ Some x → x ≡ new'
    its_own [] j new' x small is' = absurd (omega arith)
    its_own (y ∷ ys) zero new' x small is' = sym (same_Some new' x is')
    its_own (y ∷ ys) (suc j) new' x small is' = its_own ys j new' x (omega arith) is'

pub room_nowhere : (places : Places) (gs : List Group) (name : Octets) (more : ℕ) → value_of places name ≡ None
    → HasRoomFor places gs name more
room_nowhere places gs name more none k g at is = absurd (let both : None ≡ Some k = sym none ∙ at in cc)

pub room_less : (places : Places) (gs : List Group) (name : Octets) (more less : ℕ) → less ≤ more → HasRoomFor places gs name more
    → HasRoomFor places gs name less
room_less places gs name more less order room k g at is = let old = room k g at is in omega (arith, old)

-- ---- where lines end

last_push : (xs : List ℕ) (n : ℕ) → line_start (xs ++ n ∷ []) (length (xs ++ n ∷ [])) ≡ n
last_push [] n = refl
last_push (x ∷ xs) n = at_end x xs where
  at_end : (y : ℕ) (ys : List ℕ) → get_or (y ∷ (ys ++ n ∷ [])) (length (ys ++ n ∷ [])) 0 ≡ n
  at_end y [] = refl
  at_end y (z ∷ zs) = at_end z zs

end_once : (serial : ℕ) (name : Octets) (size : ℕ) (i : GroupIndex) (b : Bool)
    → end_of (cond b (with_line serial size i) i) ≤ end_of i + size
end_once serial name size i true = let at = last_push i.ends (end_of i + size) in omega (arith, at)
end_once serial name size i false = omega arith

pub ends_more : (limit more serial : ℕ) (name : Octets) (size : ℕ) (gs : List GroupIndex) → EndBelow limit gs → size < more
    → EndBelow (limit + more) (map (filed_once serial name size) gs)
ends_more limit more serial name size gs below small k i is =
    by_old (slice_get gs k) refl (sym (slice_get-map (filed_once serial name size) gs k) ∙ is) where
      by_old : (o : Option GroupIndex) → slice_get gs k ≡ o → option_map (filed_once serial name size) o ≡ Some i → end_of i < limit + more
      by_old None at found = absurd (cc)
      by_old (Some j) at found =
          let same : filed_once serial name size j ≡ i = same_Some (filed_once serial name size j) i found in
          let old = below k j at in
          let ends = end_once serial name size j (bytes_eq name j.group.name) in
          let its : end_of (filed_once serial name size j) ≡ end_of i = ap end_of same in
          omega (arith, old, ends, its)

pub ends_less : (limit more : ℕ) (gs : List GroupIndex) → limit ≤ more → EndBelow limit gs → EndBelow more gs
ends_less limit more gs order below k i is = let old = below k i is in omega (arith, old)

pub end_at : (limit : ℕ) (gs : List Group) (p : ℕ) (d : Group) → p < length gs → EndBelow limit (map shown gs)
    → end_of (shown (get_or gs p d)) < limit
end_at limit gs p d low below =
    below p (shown (get_or gs p d)) (slice_get-map shown gs p ∙ ap (option_map shown) (within_list gs p low)) where
      within_list : (xs : List Group) (k : ℕ) → k < length xs → slice_get xs k ≡ Some (get_or xs k d)
      within_list [] k small = absurd (omega arith)
      within_list (x ∷ xs) zero small = refl
      within_list (x ∷ xs) (suc k) small = within_list xs k (omega arith)

pub room_at : (places : Places) (gs : List Group) (p : ℕ) (d : Group) (name : Octets) (more : ℕ) → p < length gs
    → value_of places name ≡ Some p → HasRoomFor places gs name more
    → vec_len (get_or gs p d).lines + more ≤ vec_capacity (get_or gs p d).lines
room_at places gs p d name more low is room =
    room p (get_or gs p d) is (within_list gs p low) where
      within_list : (xs : List Group) (k : ℕ) → k < length xs → slice_get xs k ≡ Some (get_or xs k d)
      within_list [] k small = absurd (omega arith)
      within_list (x ∷ xs) zero small = refl
      within_list (x ∷ xs) (suc k) small = within_list xs k (omega arith)

-- ---- the names stay

pub heads_once : (serial : ℕ) (name : Octets) (size : ℕ) (gs : List GroupIndex) → heads (map (filed_once serial name size) gs) ≡ heads gs
heads_once serial name size [] = refl
heads_once serial name size (i ∷ gs) = by_test (bytes_eq name i.group.name) (heads_once serial name size gs) where
  by_test : (b : Bool) → heads (map (filed_once serial name size) gs) ≡ heads gs
      → heads (cond b (with_line serial size i) i ∷ map (filed_once serial name size) gs) ≡ i.group.name ∷ heads gs
  by_test true rest = ap (λ (ns : List Octets). i.group.name ∷ ns) rest
  by_test false rest = ap (λ (ns : List Octets). i.group.name ∷ ns) rest

pub heads_by : (serial : ℕ) (names : List Octets) (sizes : List ℕ) (k : ℕ) (gs : List GroupIndex)
    → heads (map (filed_by serial names sizes k) gs) ≡ heads gs
heads_by serial names sizes zero gs = map_same gs where
  map_same : (xs : List GroupIndex) → heads (map (λ i. i) xs) ≡ heads xs
  map_same [] = refl
  map_same (x ∷ xs) = ap (λ (ns : List Octets). x.group.name ∷ ns) (map_same xs)
heads_by serial names sizes (suc k) gs =
    ap heads (sym (map_twice (filed_once serial (get_or names k []) (get_or sizes k 0)) (filed_by serial names sizes k) gs))
    ∙ heads_once serial (get_or names k []) (get_or sizes k 0) (map (filed_by serial names sizes k) gs)
    ∙ heads_by serial names sizes k gs

pub heads_expired : (serial : ℕ) (name : Octets) (number : ℕ) (gs : List GroupIndex)
    → heads (map (expired_once serial name number) gs) ≡ heads gs
heads_expired serial name number [] = refl
heads_expired serial name number (i ∷ gs) = by_test (bytes_eq name i.group.name) (heads_expired serial name number gs) where
  by_test : (b : Bool) → heads (map (expired_once serial name number) gs) ≡ heads gs
      → heads (cond b (record i {
        low = 1 + number;
        expired = i.expired ++ record { serial = serial; group = i.group.name; number = number } ∷ [];
        last = serial;
      }) i ∷ map
      (expired_once serial name number) gs) ≡ i.group.name ∷ heads gs
  by_test true rest = ap (λ (ns : List Octets). i.group.name ∷ ns) rest
  by_test false rest = ap (λ (ns : List Octets). i.group.name ∷ ns) rest

-- ---- one step of the loop

pub filed_next : (serial : ℕ) (names : List Octets) (sizes : List ℕ) (k : ℕ) (now old : List GroupIndex) (new : List GroupIndex)
    → now ≡ map (filed_by serial names sizes k) old
    → new ≡ map (filed_once serial (get_or names k []) (get_or sizes k 0)) now → new ≡ map (filed_by serial names sizes (k + 1)) old
filed_next serial names sizes k now old new before step =
    let next : suc k ≡ k + 1 = omega arith in
    step ∙ ap (map (filed_once serial (get_or names k []) (get_or sizes k 0))) before
    ∙ map_twice (filed_once serial (get_or names k []) (get_or sizes k 0)) (filed_by serial names sizes k) old
    ∙ ap (λ (n : ℕ). map (filed_by serial names sizes n) old) next

-- an expiry of the group
abbrev pub expired_by : ℕ → ℕ → GroupIndex → GroupIndex
expired_by serial number i = record i {
  low = 1 + number;
  expired = i.expired ++ record { serial = serial; group = i.group.name; number = number } ∷ [];
  last = serial;
}

pub same_room : (places : Places) (gs : List Group) (name other : Octets) (more : ℕ) → name ≡ other → HasRoomFor places gs other more
    → HasRoomFor places gs name more
same_room places gs name other more same room k g at is = room k g (ap (value_of places) (sym same) ∙ at) is

-- as much room is asked of each as before
pub room_kept : (places : Places) (gs : List Group) (p : ℕ) (new : Group) (q : Octets) (more : ℕ) → HasRoomFor places gs q more
    → vec_len new.lines + more ≤ vec_capacity new.lines → HasRoomFor places (set gs p new) q more
room_kept places gs p new q more room fits = room_set places gs p new q more more room (omega arith) fits

-- a line more, and room for one fewer
pub room_pushed : (places : Places) (gs : List Group) (p : ℕ) (new d : Group) (q : Octets) (more : ℕ) → p < length gs
    → vec_len new.lines ≡ vec_len (get_or gs p d).lines + 1 → vec_capacity (get_or gs p d).lines ≤ vec_capacity new.lines
    → HasRoomFor places gs q (more + 1) → HasRoomFor places (set gs p new) q more
room_pushed places gs p new d q more low len capacity room k g at is = elim (set_cases gs p k new g is) [
  | inl there ↦
      let before : vec_len (get_or gs p d).lines + (more + 1) ≤ vec_capacity (get_or gs p d).lines =
      room k (get_or gs p d) at (subst (λ (j : ℕ). slice_get gs j ≡ Some (get_or gs p d)) (sym there.0) (got gs p low)) in
      subst (λ (h : Group). vec_len h.lines + more ≤ vec_capacity h.lines) (sym there.1) (omega (arith, before, len, capacity))
  | inr before ↦ let old = room k g at before in omega (arith, old)
]
  where
    got : (xs : List Group) (j : ℕ) → j < length xs → slice_get xs j ≡ Some (get_or xs j d)
    got [] j small = absurd (omega arith)
    got (x ∷ xs) zero small = refl
    got (x ∷ xs) (suc j) small = got xs j (omega arith)

-- ---- groups lent as a slice and handed back

pub kept_size : (old new : List Group) (f : GroupIndex → GroupIndex) → map shown new ≡ map f (map shown old) → length new ≡ length old
kept_size old new f same = omega (
  arith,
  ap (λ (gs : List GroupIndex). length gs) same,
  length-map new shown,
  length-map (map shown old) f,
  length-map old shown,
)

pub written : {X : Type 0} (old new : List X) (len : ℕ) → length new ≡ len → take len (new ++ drop (length new) old) ≡ new
written old new len size = ap (λ (n : ℕ). take n (new ++ drop (length new) old)) (sym size)
    ∙ take_at new (drop (length new) old) (length new) refl

-- first with room made, then with lines pushed
pub filed_twice : (items lent reserved again pushed : List Group) (len serial : ℕ) (read filed : List Octets) (sizes : List ℕ)
    → length items ≡ len → lent ≡ items → map shown reserved ≡ map shown lent
    → again ≡ take len (reserved ++ drop (length reserved) items)
    → map shown pushed ≡ map (filed_by serial read sizes (length read)) (map shown again) → read ≡ filed
    → map shown (take len (pushed ++ drop (length pushed) (take len (reserved ++ drop (length reserved) items))))
    ≡ map (filed_by serial filed sizes (length filed)) (map shown items)
filed_twice items lent reserved again pushed len serial read filed sizes size lent_is same again_is more read_is =
    let f : GroupIndex → GroupIndex = filed_by serial filed sizes (length filed) in
    let kept : map shown reserved ≡ map shown items = same ∙ ap (map shown) lent_is in
    let count : length reserved ≡ len =
    omega (arith, ap (λ (gs : List GroupIndex). length gs) kept, length-map reserved shown, length-map items shown, size) in
    let back : again ≡ reserved = again_is ∙ written items reserved len count in
    let whole : map shown pushed ≡ map f (map shown items) =
    more ∙ ap (λ (names : List Octets). map (filed_by serial names sizes (length names)) (map shown again)) read_is
    ∙ ap (λ (gs : List Group). map f (map shown gs)) back ∙ ap (map f) kept in
    let last : length pushed ≡ len = kept_size items pushed f whole ∙ size in
    ap (map shown) (written (take len (reserved ++ drop (length reserved) items)) pushed len last) ∙ whole
