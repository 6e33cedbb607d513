-- An article is filed.
use Rattle.std.proofs.Common.{◌≡◌, ◌≤◌, ℕ, suc, ◌+◌, List, [], ◌∷◌, ◌++◌, length, get_or, map, refl, ◌∙◌, ap, subst, arith}
use Rattle.std.specs.Prelude.{Option, Some, None, option_map, slice_get, unwrap_or}
use Rattle.std.specs.List.{sum_by}
use Rattle.std.proofs.lemmas.List.Sums.{sum_by-cons}
use Rattle.model.specs.Stream.{Octets}
use Rattle.model.specs.Files.{File, HasRoom, IsFileSystem, free_inodes, table}
use Rattle.model.specs.Indexed.{ChangePlace}
use Rattle.model.specs.Lawful.{MayFile}
use Rattle.model.specs.Packs.{pack_name}
use Rattle.model.specs.Records.{article_record}
use Rattle.model.specs.Spool.{Spool, news_article}
use Rattle.model.specs.FileCalls.{FileCall, Create, Append, index_calls}
use Rattle.model.specs.SpoolFiles.{article_name}
use Rattle.model.specs.declared.change.Change.TheVariants.{Article}
use Rattle.model.specs.declared.change.Filing.{Filing}
use Rattle.fs.specs.Calls.{IsThere}
use Rattle.fs.specs.Touches.{Touches, touched_by_growth}
use Rattle.fs_layout.proofs.Touching.{touches_then}
use Rattle.spool_growing.specs.declared.file_calls.Piece.{Piece}
use Rattle.spool_growing.specs.Calls.{AppendsFirst, Calls, MayAllGrow, append_call, touched_by_pieces}
use Rattle.spool_growing.specs.Putting.{AreNotPacked, PutsAt, touched_by_put}
use Rattle.spool_growing.proofs.Calling.{calls_then}
use Rattle.spool_index.specs.Places.{with_change}
use Rattle.spool_index.specs.View.{Indexes}
use Rattle.spool_growing.specs.Articles.{ArePieces}
use Rattle.spool_growing.specs.declared.file_calls.Free.{Free}
use Rattle.spool_growing.specs.declared.kept.Kept.{Kept}
use Rattle.spool_growing.specs.Growing.{FilesArticle, IsOnStage, IsStaged}
use Rattle.spool_growing.specs.Kept.{IsHeld, IsKept}
use Rattle.spool_growing.proofs.Absent.{lacks_serial, not_first}
use Rattle.spool_growing.proofs.Adding.{pieces_call}
use Rattle.spool_growing.proofs.Held.{changes_are_few, not_there, own_file}
use Rattle.spool_growing.proofs.Packing.{one_created, same_file}
use Rattle.spool_growing.proofs.Stored.{kept_with_put}
use Rattle.spool_growing.proofs.Taken.{creates, inodes_taken}
use Rattle.spool_growing.proofs.Touched.{touched_by}
use Rattle.std.proofs.lemmas.List.{take_all}

pub lacks_article : (host : Octets) (inodes : ℕ) (blocks : List Octets) (S : Spool) → IsHeld host inodes blocks S
    → ¬ (IsThere (table inodes blocks) (article_name (length S + 1)))
lacks_article host inodes blocks S is =
    not_there host inodes blocks S is (article_name (length S + 1))
    (not_first (article_name (length S + 1)) pack_name 97 112 refl refl (λ e. omega arith))
    (λ f has. (lacks_serial S (omega (arith, changes_are_few host inodes blocks S is)) f has).article)

-- ---- after its file is made

same_calls : (f h : Piece → FileCall) (ps : List Piece) → ((k : ℕ) (p : Piece) → slice_get ps k ≡ Some p → f p ≡ h p) → map f ps ≡ map h ps
same_calls f h [] same = refl
same_calls f h (p ∷ ps) same = λ i. same 0 p refl i ∷ same_calls f h ps (λ k q at. same (suc k) q at) i

-- the octets of a file, if there is one
abbrev size_of : Option File → ℕ
size_of o = unwrap_or (option_map (λ (f : File). length f.content) o) 0

same_sum : (f h : Piece → ℕ) (ps : List Piece) → ((k : ℕ) (p : Piece) → slice_get ps k ≡ Some p → f p ≡ h p) → sum_by f ps ≡ sum_by h ps
same_sum f h [] same = refl
same_sum f h (p ∷ ps) same =
    omega (arith, sum_by-cons f p ps, sum_by-cons h p ps, same 0 p refl, same_sum f h ps (λ k q at. same (suc k) q at))

module _ (inodes : ℕ) (at : ChangePlace) (f : File) (pieces : List Piece) (old mid : List Octets) (puts : PutsAt inodes at f old mid)
    (lacks : ¬ (IsThere (table inodes old) f.name)) (apart : AreNotPacked (table inodes old) pieces)
    (may : MayAllGrow inodes pieces old) where
  same : (k : ℕ) (p : Piece) → slice_get pieces k ≡ Some p → get_or (table inodes mid) p.at None ≡ get_or (table inodes old) p.at None
  same = same_file inodes at f pieces old mid puts lacks apart may

  -- the calls of the pieces
  calls_of : map (append_call (table inodes mid)) pieces ≡ map (append_call (table inodes old)) pieces
  calls_of = same_calls (append_call (table inodes mid)) (append_call (table inodes old)) pieces
      (λ k p is. ap (λ (o : Option File). Append (unwrap_or (option_map (λ (g : File). g.name) o) []) p.octets.items) (same k p is))

  pub files_article : (new : List Octets) → AppendsFirst inodes pieces (length pieces) mid new → FilesArticle inodes at f pieces old new
  files_article new appends =
      let all : Calls inodes (map (append_call (table inodes mid)) pieces) mid new =
      subst (λ (ps : List Piece). Calls inodes (map (append_call (table inodes mid)) ps) mid new)
      (take_all (length pieces) pieces (omega arith)) appends.calls in
      record { mid = mid; puts = puts; calls = subst (λ (cs : List FileCall). Calls inodes cs mid new) calls_of all }

  -- what the pieces touch
  same_touched : touched_by_pieces (table inodes mid) pieces ≡ touched_by_pieces (table inodes old) pieces
  same_touched = same_sum (touched_by (table inodes mid)) (touched_by (table inodes old)) pieces
      (λ k p is. ap (λ (o : Option File). touched_by_growth (size_of o) (length p.octets.items)) (same k p is))

  pub all_touched : (new : List Octets) → Touches (touched_by_put (length f.content)) old mid
      → Touches (touched_by_pieces (table inodes mid) pieces) mid new
      → Touches (touched_by_put (length f.content) + touched_by_pieces (table inodes old) pieces) old new
  all_touched new first second =
      let reached = touched_by_put (length f.content) in
      subst (λ (n : ℕ). Touches (reached + n) old new) same_touched
      (touches_then reached (touched_by_pieces (table inodes mid) pieces) old mid new first second)

-- ---- the whole

-- the pieces make no file
none_created : (f : Piece → FileCall) (pieces : List Piece) → ((p : Piece) → creates (f p ∷ []) ≡ 0) → creates (map f pieces) ≡ 0
unfolding creates
none_created f [] none = refl
none_created f (p ∷ pieces) none = by_call (f p) (none p) (none_created f pieces none) where
  by_call : (call : FileCall) → creates (call ∷ []) ≡ 0 → creates (map f pieces) ≡ 0 → creates (call ∷ map f pieces) ≡ 0
  by_call (Create other) is rest = absurd (omega (arith, is))
  by_call (Append other more) is rest = rest

-- the calls of an article that is filed, from its first to its last
pub filed_calls : (inodes : ℕ) (at : ChangePlace) (f : File) (pieces : List Piece) (old new : List Octets)
    → (filed : FilesArticle inodes at f pieces old new)
    → Calls inodes (filed.puts.calls ++ map (append_call (table inodes old)) pieces) old new
filed_calls inodes at f pieces old new filed =
    calls_then inodes filed.puts.calls (map (append_call (table inodes old)) pieces) old filed.mid new filed.puts.made filed.calls

-- an inode at most is taken
article_takes : (inodes : ℕ) (at : ChangePlace) (f : File) (pieces : List Piece) (old new : List Octets)
    → FilesArticle inodes at f pieces old new → HasRoom inodes old → IsFileSystem inodes old
    → free_inodes inodes old ≤ free_inodes inodes new + 1
unfolding creates
article_takes inodes at f pieces old new filed room rule =
    omega (
      arith,
      inodes_taken inodes filed.puts.calls old filed.mid filed.puts.made room rule,
      inodes_taken inodes (map (append_call (table inodes old)) pieces) filed.mid new filed.calls filed.puts.made.room filed.puts.made.rule,
      one_created (table inodes old) at f filed.puts.calls filed.puts.putting,
      none_created (append_call (table inodes old)) pieces (λ p. refl),
    )

pub article_staged : (k m : Kept) (next : Free) (f : Filing) (at : ChangePlace) (serial : ℕ) (octets : Octets) (pieces : List Piece)
    → IsOnStage k m next
    → FilesArticle k.inodes at (record { name = article_name serial; content = octets }) pieces k.volume.seen m.volume.seen
    → m.places ≡ with_change at k.places
    → ((host : Octets) (S : Spool) → MayFile host S f → IsKept host k.inodes k.volume k.index k.places S
    → Indexes (S ++ Article f ∷ []) m.index)
    → ((S : Spool) → Indexes S k.index → serial ≡ length S + 1) → octets ≡ article_record (news_article serial f)
    → ((host : Octets) (S : Spool) → IsKept host k.inodes k.volume k.index k.places S
    → ArePieces (table k.inodes k.volume.seen) S f.text f.envelope.groups pieces)
    → IsStaged k m next (Article f)
article_staged k m next f at serial octets pieces stage filed places indexed serials says are =
    let its : File = record { name = article_name serial; content = octets } in
    record {
      stage = stage;
      kept = λ host S kept may.
          let n = serials S kept.indexed in
          let file : its ≡ own_file S (Article f) = λ i. record {
            name = article_name (n i);
            content = (says ∙ ap (λ (j : ℕ). article_record (news_article j f)) n) i;
          } in
          let filed' : FilesArticle k.inodes at (own_file S (Article f)) pieces k.volume.seen m.volume.seen =
          subst (λ (h : File). FilesArticle k.inodes at h pieces k.volume.seen m.volume.seen) file filed in
          let more : Calls k.inodes (index_calls S (Article f)) filed'.mid m.volume.seen =
          subst (λ (cs : List FileCall). Calls k.inodes cs filed'.mid m.volume.seen)
          (pieces_call (table k.inodes k.volume.seen) S f.text f.envelope.groups pieces (are host S kept)) filed'.calls in
          kept_with_put host k m S (Article f) at filed'.mid refl kept may filed'.puts more places (indexed host S may kept);
      free = λ room rule. article_takes k.inodes at its pieces k.volume.seen m.volume.seen filed room rule;
    }
