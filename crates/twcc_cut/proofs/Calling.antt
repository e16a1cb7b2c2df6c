-- The theorem about cuts, of the code, from the promises of `write` and `read`: blocks that the writer wrote one after the other, each
-- read by the reader, give the list; and with room a call on what is left is never refused, so that the calls end.
use Prim.Native.Nat.{ℕ, zero, suc, ◌+◌, ◌%◌, ◌≤◌, ◌<◌}
use mathlib.Core.Path.{◌≡◌, refl, sym, ap, subst, ◌∙◌}
use mathlib.Core.List.{List, [], ◌∷◌, map}
use native.Mathlib.Omega.{arith}
use borrow.Author.Tests.{le-ltb}
use lib.Dec.{ltb}
use lib.IntN.{ℤ}
use lib.ListN.{length, take, drop, length-take, length-drop}
use Rattle.std.specs.Prelude.{Result, Ok}
use Rattle.refusal.specs.Outcome.{gave}
use Rattle.refusal.specs.Said.{said as said_of}
use Rattle.refusal.specs.declared.Refusal.{Refusal}
use Rattle.refusal.proofs.Unique.{said_unique}
use Rattle.twcc.specs.Words.{AllValid}
use Rattle.twcc.specs.Block.{listed}
use Rattle.twcc_plan.specs.Block.{most_entries, taken_of, size_of, block_bytes}
use Rattle.twcc_plan.proofs.PlanLaws.{wide-eight}
use Rattle.twcc_plan.proofs.BlockLaws.{valid-drop, block-takes, block-length, block-list, taken-fits}
use Rattle.twcc_cursors.specs.Cursors.{header_of}
use Rattle.twcc_cursors.specs.declared.Header.{Header}
use Rattle.twcc_read.specs.Promise.{read_answer, Reads}
use Rattle.twcc_read.proofs.Keeping.{read-within}
use Rattle.twcc_read.specs.declared.Listed.{Listed}
use Rattle.twcc_write.specs.Promise.{Wrote}
use Rattle.twcc_write.proofs.Answers.{passes}
use Rattle.twcc_cut.proofs.Answers.{past, used_for, block-there}
use Rattle.twcc_write.specs.declared.Used.{Used}
use Rattle.twcc_cut.specs.Cut.{Choice, Fits, Part, part_of, Cut, AllFit, back}
use Rattle.twcc_cut.specs.Cut as cut
use Rattle.twcc_cut.specs.Calls.{Call, block_of, part_from, Calls, given, CallsWhole, Enough, Writer, Reader, Ways, nothing_left, one_more}
use Rattle.twcc_cut.proofs.Cutting.{cut_whole}

-- ---- what the answers tell

-- an answer of the reader: the block's header and its entries
pub record Read (block : List ℕ) (said : Listed) (words : List ℤ) : Type 0 where
  pub header : said.header ≡ header_of block
  pub entries : take said.count words ≡ listed block

pub read-there : (block : List ℕ) (room : List ℤ) (said : Listed) (words : List ℤ) → Reads block room (Ok said) words → Read block said words
unfolding read_answer
read-there block room said words reads =
    let known = read-within block room (Ok said) words reads in
    let whole = past (ltb (length block) 8) _ (8 ∷ length block ∷ []) _ (sym reads.answer) in
    let gives = (past (ltb (length room) (length (listed block))) _ (length (listed block) ∷ length room ∷ []) _ whole.1).1 in
    let is : said ≡ record { header = header_of block; count = length (listed block) } = cc in
    record {
      header = ap (λ (l : Listed). l.header) is;
      entries = ap (λ (n : ℕ). take n words) known.0 ∙ known.1.front;
    }

-- ---- that the code's blocks read as the list

-- they are a cut
calls_cut : {base : ℕ} {list : List ℤ} {calls : List Call} → Calls base list calls → Cut base list (map part_from calls)
calls_cut nothing_left = cut.nothing_left
calls_cut {base} {list} (one_more {calls = calls} c there wrote reads later) =
    let block = block-there c.used wrote in
    let taken : taken_of c.choice.limit list ≡ c.used.taken = sym (ap (λ (u : Used). u.taken) block.is) in
    let part : part_of c.choice base list ≡ part_from c = λ i. record { choice = c.choice; taken = taken i; block = sym block.there i } in
    let rest = subst (λ (n : ℕ). Cut ((base + n) % 65536) (drop n list) (map part_from calls)) (sym taken) (calls_cut later) in
    subst (λ (p : Part). Cut base list (p ∷ map part_from calls)) part (cut.one_more c.choice there rest)

calls_passed : {base : ℕ} {list : List ℤ} {calls : List Call} → Calls base list calls → AllValid list × (length list ≤ most_entries)
calls_passed nothing_left = (tt, omega arith)
calls_passed (one_more c there wrote reads later) = let passed = (block-there c.used wrote).passed in (passed.valid, passed.plannable.short)

-- and the reader gives what they read as
calls_given : {base : ℕ} {list : List ℤ} {calls : List Call} → Calls base list calls → given calls ≡ back (map part_from calls)
unfolding given back
calls_given nothing_left = refl
calls_given (one_more c there wrote reads later) =
    let read = read-there (block_of c) c.room c.said c.words reads in
    let base = ap (λ (h : Header). h.base.0) read.header in
    rw (base, read.entries, calls_given later)

-- whatever limits were chosen, each call took an entry and kept within its limit, and all of them read give the list
pub calls_whole : (base : ℕ) (list : List ℤ) (calls : List Call) → Calls base list calls → base < 65536 → AllFit (map part_from calls) → CallsWhole base list calls
calls_whole base list calls made small fit =
    let passed = calls_passed made in
    let whole = cut_whole base list (map part_from calls) (calls_cut made) small passed.1 passed.0 fit in
    record { each = whole.each; read_back = calls_given made ∙ whole.read_back }

-- ---- that the procedure goes on: with room, no call on what is left is refused, and the writer takes an entry

pub write_goes_on : (base : ℕ) (list : List ℤ) {old new : List ℕ} (c : Choice) (answer : Result Used Refusal) → Fits c → zero < length list → length list ≤ most_entries → AllValid list
    → size_of c.limit list ≤ length old → Wrote base c.time c.feedback list c.limit old answer new
    → (answer ≡ Ok (used_for list c.limit)) × (zero < taken_of c.limit list)
write_goes_on base list c answer fits there short valid room wrote = (
  said_unique answer (Ok (used_for list c.limit)) (wrote.answer ∙ passes (record { fits = fits.1; plannable = record { short = short; eight = wide-eight c.limit fits.0 }; valid = valid; room = room })),
  block-takes c.limit list fits.0 there,
)

pub read_goes_on : (base : ℕ) (list : List ℤ) {room words : List ℤ} (c : Choice) (r : Result Listed Refusal) → Fits c → AllValid list → taken_of c.limit list ≤ length room
    → Reads (block_bytes base c.time c.feedback c.limit list) room r words
    → r ≡ Ok (record { header = header_of (block_bytes base c.time c.feedback c.limit list); count = taken_of c.limit list })
unfolding read_answer
read_goes_on base list {room} {words} c r fits valid enough reads =
    let block = block_bytes base c.time c.feedback c.limit list in
    let eight = wide-eight c.limit fits.0 in
    let size : 8 ≤ length block = omega (arith, block-length c.limit list eight base c.time c.feedback) in
    let n : length (listed block) ≡ taken_of c.limit list =
    ap length (block-list c.limit list eight base c.time c.feedback valid) ∙ omega (arith, length-take (taken_of c.limit list) list, taken-fits c.limit list eight) in
    let answer : said_of r ≡ gave (record { header = header_of block; count = taken_of c.limit list }) =
    reads.answer ∙ simp (le-ltb (length block) 8 size, n, le-ltb (length room) (taken_of c.limit list) enough) in
    said_unique r (Ok (record { header = header_of block; count = taken_of c.limit list })) answer

module _ (write : Writer) (read : Reader) (way : Ways) (enough : (before : List Call) (list : List ℤ) → Enough (way before list) list) where
  one_call : (before : List Call) (base : ℕ) (list : List ℤ) → zero < length list → length list ≤ most_entries → AllValid list
      → (c : Call)
      × (Wrote base c.choice.time c.choice.feedback list c.choice.limit c.before (Ok c.used) c.after
      × (Reads (block_of c) c.room (Ok c.said) c.words × (Fits c.choice × (c.used.taken ≡ taken_of c.choice.limit list))))
  one_call before base list there short valid =
      let m = way before list in
      let e = enough before list in
      let w = write base list m in
      let goes = write_goes_on base list m.choice w.0 e.0 there short valid e.1 w.1.1 in
      let used = used_for list m.choice.limit in
      let wrote = subst (λ (a : Result Used Refusal). Wrote base m.choice.time m.choice.feedback list m.choice.limit m.buffer a w.1.0) goes.0 w.1.1 in
      let block = block-there used wrote in
      let r = read (take used.bytes w.1.0) m.room in
      let there' = subst (λ (b : List ℕ). Reads b m.room r.0 r.1.0) block.there r.1.1 in
      let says = read_goes_on base list m.choice r.0 e.0 valid e.2 there' in
      let said : Listed = record { header = header_of (block_bytes base m.choice.time m.choice.feedback m.choice.limit list); count = taken_of m.choice.limit list } in (
        record { choice = m.choice; before = m.buffer; used = used; after = w.1.0; room = m.room; said = said; words = r.1.0 },
        (wrote, (subst (λ (a : Result Listed Refusal). Reads (take used.bytes w.1.0) m.room a r.1.0) says r.1.1, (e.0, refl))),
      )

  calls_from : (fuel : ℕ) (before : List Call) (base : ℕ) (list : List ℤ) → length list ≤ fuel → length list ≤ most_entries → AllValid list
      → (calls : List Call) × (Calls base list calls × AllFit (map part_from calls))
  calls_from zero before base [] few short valid = ([], (nothing_left, tt))
  calls_from zero before base (w ∷ list) few short valid = absurd (omega arith)
  calls_from (suc fuel) before base [] few short valid = ([], (nothing_left, tt))
  calls_from (suc fuel) before base (w ∷ list) few short valid =
      let one = one_call before base (w ∷ list) (omega arith) short valid in
      let c = one.0 in
      let n = c.used.taken in
      let some : zero < n = omega (arith, one.1.1.1.1, block-takes c.choice.limit (w ∷ list) one.1.1.1.0.0 (omega arith)) in
      let fewer : length (drop n (w ∷ list)) ≤ fuel = omega (arith, length-drop n (w ∷ list)) in
      let rest = calls_from fuel (c ∷ before) ((base + n) % 65536) (drop n (w ∷ list)) fewer (omega (arith, length-drop n (w ∷ list))) (valid-drop n (w ∷ list) valid) in
      (c ∷ rest.0, (one_more {list = w ∷ list} {calls = rest.0} c (omega arith) one.1.0 one.1.1.0 rest.1.0, (one.1.1.1.0, rest.1.1)))

  -- with room, the calls end, and what the reader gave is the list
  pub calls_end : (base : ℕ) (list : List ℤ) → base < 65536 → length list ≤ most_entries → AllValid list → (calls : List Call) × (Calls base list calls × CallsWhole base list calls)
  calls_end base list small short valid =
      let made = calls_from (length list) [] base list (omega arith) short valid in
      (made.0, (made.1.0, calls_whole base list made.0 made.1.0 small made.1.1))
