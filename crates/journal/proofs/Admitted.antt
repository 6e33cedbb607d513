-- What a crash leaves at each call of a batch: a law of the segments for each kind of call.
use Rattle.std.proofs.Common.{◌≡◌, inl, inr, ◌<◌, ◌≤◌, ℕ, ◌+◌, ◌*◌, Bool, true, false, eqb, List, [], ◌∷◌, ◌++◌, length, get_or, drop, refl}
use Rattle.std.proofs.Common.{sym}
use Rattle.std.proofs.Common.{◌∙◌, ap, subst, arith}
use Rattle.std.proofs.lemmas.Bool.{cond_both}
use Rattle.std.proofs.lemmas.List.{drop_more}
use Rattle.model.specs.Volume.{AreDistinct, Batch, IsDescriptor, StandsFor, batch_in, block, descriptor_place, gate_closed, gate_place}
use Rattle.model.specs.Volume.{epoch_in, epoch_of, home_size, image_place, is_open, laid_over, logical_blocks, number_at, segment_count}
use Rattle.journal_laws.specs.Held.{AreOpen, HaveLess, HeldBatch, IsHomeOfHeld, IsWrittenIn}
use Rattle.journal_laws.specs.Images.{IsCarried, IsHomeOfOpen, SameBut}
use Rattle.journal_laws.proofs.Blocks.{first-overwritten, overwritten_same, same_but_back, same_but_more, same_but_then}
use Rattle.journal_laws.proofs.Gates.{any_shut, closed_or_not, first_is_least, gate_kept, less_than, opened_open, opened_or_not}
use Rattle.journal_laws.proofs.Standing.{torn, unread}
use Rattle.journal_laws.proofs.Writing.{torn_held}
use Rattle.journal_segments.proofs.Written.{batch_is}
use Rattle.journal_segments.specs.Staged.{IsStaged, held_as}
use Rattle.journal.specs.Flight.{Flight, all_of, are_all, closing_block, held_at, none_held}
use Rattle.journal.specs.Inside.{IsAdmitted, Touched, blocks_without}
use Rattle.journal.specs.declared.Next.{Next}
use Rattle.journal.specs.declared.Next.TheVariants.{Idle, Descriptor, Image, Seal, OpenGate, Commit, Home, Settle, Close, Finish}

-- what the content before a call bears of what a crash after it leaves
abbrev pub Bears : Flight → Next → List ℕ → Type 0
Bears f (Image i) x = is_open f.batch.place x ≡ false
Bears f Seal x = is_open f.batch.place x ≡ false
Bears f Commit x =
    (is_open f.batch.place x ≡ false) × AreOpen f.held x × IsWrittenIn f.batch.place f.batch.descriptor f.batch.images x
    × HaveLess (held_as f.batch).batch.number f.held
Bears f (Home j i) x = AreOpen (all_of f) x
Bears f Settle x = AreOpen (all_of f) x
Bears f (Finish j) x = (are_all f ≡ false) × (j < length (all_of f)) × AreOpen (drop j (all_of f)) x × IsCarried x
Bears f next x = Unit {0}

-- a 0 is no epoch
pub zero_shut : (octets : List ℕ) → eqb 0 (epoch_in octets) ≡ false
zero_shut octets = cond_both (eqb (get_or octets 150 0) 2) 2 1 (λ k. eqb 0 k ≡ false) (λ e. refl) (λ e. refl)

pub shut_by : (m : ℕ) (x : List ℕ) → get_or (block (gate_place m) x) 0 0 ≡ 0 → is_open m x ≡ false
shut_by m x is = ap (λ (n : ℕ). eqb n (epoch_of x)) is ∙ zero_shut (block 0 x)

-- a volume, and the image with a gate closed
module _ (x label : List ℕ) (m : ℕ) (stands : StandsFor x label (logical_blocks x)) (there : m < segment_count x) where
  pub fits : 4096 * gate_place m + 1 ≤ length x
  fits = omega (arith, stands.has_superblock.exactly, there)

  pub shut_same : SameBut (λ k. k ≡ gate_place m) x (gate_closed m x)
  shut_same = overwritten_same (gate_place m) (0 ∷ []) x (omega arith) fits

  pub is_shut : is_open m (gate_closed m x) ≡ false
  is_shut = shut_by m (gate_closed m x) (first-overwritten (gate_place m) 0 x fits)

  pub stands_shut : StandsFor (gate_closed m x) label (logical_blocks (gate_closed m x))
  stands_shut = any_shut x (gate_closed m x) label (logical_blocks x) m stands there shut_same is_shut

  zeroth : block 0 (gate_closed m x) ≡ block 0 x
  zeroth = shut_same.same 0 (λ e. absurd (omega (arith, e)))

  pub there_shut : m < segment_count (gate_closed m x)
  there_shut = subst (λ (n : ℕ). m < n) (sym (ap (number_at 16 4) zeroth)) there

  pub size_shut : home_size (gate_closed m x) ≡ home_size x
  size_shut = ap (number_at 12 4) zeroth

  -- images that differ in the gate have the same blocks without the batch
  pub shut_alike : (c : List ℕ) → SameBut (λ k. k ≡ gate_place m) x c → logical_blocks (gate_closed m c) ≡ logical_blocks (gate_closed m x)
  shut_alike c same =
      let room : 4096 * gate_place m + 1 ≤ length c = omega (arith, fits, same.size) in
      let shut_c : is_open m (gate_closed m c) ≡ false = shut_by m (gate_closed m c) (first-overwritten (gate_place m) 0 c room) in
      let both =
      same_but_then (λ k. k ≡ gate_place m) (gate_closed m x) x (gate_closed m c)
      (same_but_back (λ k. k ≡ gate_place m) x (gate_closed m x) shut_same)
      (same_but_then (λ k. k ≡ gate_place m) x c (gate_closed m c) same (overwritten_same (gate_place m) (0 ∷ []) c (omega arith) room)) in
      (gate_kept (gate_closed m x) (gate_closed m c) label (logical_blocks (gate_closed m x)) m stands_shut there_shut both (shut_c
      ∙ sym is_shut)).has_blocks

  -- and where it is closed nothing changes
  pub shut_already : is_open m x ≡ false → logical_blocks (gate_closed m x) ≡ logical_blocks x
  shut_already shut = (gate_kept x (gate_closed m x) label (logical_blocks x) m stands there shut_same (is_shut ∙ sym shut)).has_blocks

-- the descriptor of the batch that stands in the segment is valid
module _ (f : Flight) (blocks : ℕ) (staged : IsStaged blocks f.batch) (x : List ℕ)
    (written : IsWrittenIn f.batch.place f.batch.descriptor f.batch.images x) where
  pub batch_valid : home_size x ≡ blocks → IsDescriptor (home_size x) (block (descriptor_place f.batch.place) x)
  batch_valid is =
      let valid : IsDescriptor blocks f.batch.descriptor = record {
        some = omega (arith, staged.sound.some, staged.count);
        few = omega (arith, staged.sound.few, staged.count);
        zero = staged.zero;
        below = subst (λ (l : List ℕ). Rattle.std.specs.List.All (λ n. n < blocks) l) (sym staged.lists) staged.sound.below;
        distinct = subst (λ (l : List ℕ). AreDistinct l) (sym staged.lists) staged.distinct;
      } in
      subst (λ (b : List ℕ). IsDescriptor (home_size x) b) (sym written.descriptor_is)
      (subst (λ (n : ℕ). IsDescriptor n f.batch.descriptor) (sym is) valid)

module _ (f : Flight) (x label : List ℕ) (stands : StandsFor x label (logical_blocks x)) (there : f.batch.place < segment_count x)
    (count : segment_count x ≡ f.segments) (staged : IsStaged (home_size x) f.batch) where
  abbrev m : ℕ
  m = f.batch.place

  abbrev shut : List ℕ
  shut = gate_closed m x

  -- the batch, in the image with its gate closed
  written_shut : IsWrittenIn m f.batch.descriptor f.batch.images x → IsWrittenIn m f.batch.descriptor f.batch.images shut
  written_shut written = record {
    descriptor_is = (shut_same x label m stands there).same (descriptor_place m) (λ e. absurd (omega (arith, e))) ∙ written.descriptor_is;
    images_are = λ k within. (shut_same x label m stands there).same (image_place m k) (λ e. absurd (omega (arith, e)))
        ∙ written.images_are k within;
  }

  laid_same : (y : List ℕ) (bs : List (List ℕ)) → IsWrittenIn m f.batch.descriptor f.batch.images y
      → laid_over bs (batch_in m y).numbers (batch_in m y).images ≡ laid_over bs f.batch.numbers f.batch.images
  laid_same y bs written = ap (λ (b : Batch). laid_over bs b.numbers b.images) (batch_is f.batch (home_size x) staged y written)

  -- the sync that commits lays the batch over
  pub committed : AreOpen f.held shut → is_open m x ≡ true → IsWrittenIn m f.batch.descriptor f.batch.images x
      → HaveLess (held_as f.batch).batch.number f.held
      → (logical_blocks x ≡ laid_over (logical_blocks shut) f.batch.numbers f.batch.images) × AreOpen (all_of f) x
  committed are opened written less =
      let here = written_shut written in
      let is = batch_is f.batch (home_size x) staged shut here in
      let now =
      opened_open shut x label (logical_blocks shut) m f.held (stands_shut x label m stands there) (is_shut x label m stands there)
      (there_shut x label m stands there)
      (batch_valid f (home_size x) staged shut here (size_shut x label m stands there)) are
      (subst (λ (b : Batch). HaveLess b.number f.held) (sym is) less)
      (same_but_back (λ k. k ≡ gate_place m) x shut (shut_same x label m stands there)) opened in (
        now.0.has_blocks ∙ laid_same shut (logical_blocks shut) here,
        subst (λ (b : Batch). AreOpen (f.held ++ record { place = m; batch = b } ∷ []) x) is now.1,
      )

  -- nothing was written
  whole_case : (c : List ℕ) → SameBut (λ k. ⊥) x c → StandsFor c label (logical_blocks x)
  whole_case c same = torn x c label (logical_blocks x) stands (same_but_more (λ k. ⊥) (IsHomeOfOpen x) x c (λ k e. absurd e) same)

  -- the gate of the batch, at the commit
  commit_case : (c : List ℕ) → Bears f Commit x → SameBut (λ k. k ≡ gate_place m) x c
      → IsAdmitted Commit label (logical_blocks shut) (laid_over (logical_blocks shut) f.batch.numbers f.batch.images) c
  commit_case c bears same =
      let is = batch_is f.batch (home_size x) staged x bears.2 in
      let same_blocks = sym (shut_already x label m stands there bears.0) in
      elim (opened_or_not x c label (logical_blocks x) m stands bears.0 there (batch_valid f (home_size x) staged x bears.2 refl)
      (less_than x (batch_in m x).number f.held bears.1 (subst (λ (b : Batch). HaveLess b.number f.held) (sym is) bears.3)) same) [
        | inl without ↦ inl (subst (λ (bs : List (List ℕ)). StandsFor c label bs) same_blocks without)
        | inr after ↦
            inr (
              refl,
              subst (λ (bs : List (List ℕ)). StandsFor c label bs) (laid_same x (logical_blocks x) bears.2
                  ∙ ap (λ (bs : List (List ℕ)). laid_over bs f.batch.numbers f.batch.images) same_blocks) after,
            )
      ]

  -- the homes of the images of open segments
  home_case : (c : List ℕ) → AreOpen (all_of f) x → SameBut (IsHomeOfHeld f.segments (all_of f)) x c → StandsFor c label (logical_blocks x)
  home_case c are same = torn_held x c label (logical_blocks x) (all_of f) stands are
      (subst (λ (n : ℕ). SameBut (IsHomeOfHeld n (all_of f)) x c) (sym count) same)

  -- and the gate of the first one, once they are carried
  finish_case : (j : ℕ) (c : List ℕ) → Bears f (Finish j) x → SameBut (Touched f (Finish j)) x c → StandsFor c label (logical_blocks x)
  finish_case j c bears same =
      let h = held_at (all_of f) j in
      let are = subst (λ (hs : List HeldBatch). AreOpen hs x) (drop_more (all_of f) j none_held bears.1) bears.2 in
      let here : SameBut (λ k. k ≡ gate_place h.place) x c =
      subst (λ (b : Bool). SameBut (λ k. k ≡ closing_block b j (all_of f)) x c) bears.0 same in
      (closed_or_not x c label (logical_blocks x) h.place stands are.each.0.0 (first_is_least x h (drop (j + 1) (all_of f)) are) bears.3
      here).0

  -- at each call
  pub images_stand : (next : Next) (c : List ℕ) → Bears f next x → SameBut (Touched f next) x c
      → IsAdmitted next label (blocks_without m next x) (laid_over (blocks_without m next x) f.batch.numbers f.batch.images) c
  images_stand Idle c bears same = inl (whole_case c same)
  images_stand Descriptor c bears same = inl (whole_case c same)
  images_stand (Image i) c bears same = inl (unread x c label (logical_blocks x) m stands bears there same)
  images_stand Seal c bears same = inl (unread x c label (logical_blocks x) m stands bears there same)
  images_stand OpenGate c bears same = inl (whole_case c same)
  images_stand Commit c bears same = commit_case c bears same
  images_stand (Home j i) c bears same = inl (home_case c bears same)
  images_stand Settle c bears same = inl (home_case c bears same)
  images_stand (Close j) c bears same = inl (whole_case c same)
  images_stand (Finish j) c bears same = inl (finish_case j c bears same)
