-- How a listing goes on, where it ends, and that it ends.
use Rattle.std.proofs.Common.{◌≡◌, ℕ, zero, suc, ◌+◌, ◌<◌, ◌≤◌, List, [], ◌∷◌, ◌++◌, length, Option, Some, None, Err, refl, sym, ap, subst, ◌∙◌, arith, inl, inr, append_assoc, append-nil, length-append, lit≤}
use Rattle.std.proofs.lemmas.Bool.{cases_lt}
use Rattle.cerco_base.specs.Outside.IoStates.{SinkState}
use Rattle.cerco_base.specs.Outside.IoCalls.{PutsText}
use Rattle.cerco_base.specs.declared.outside.faults.IoFault.{IoFault}
use Rattle.cerco_base.proofs.Putting.{SoFar, begun}
use Rattle.mcs51_isa.specs.declared.instr.Instr.{Instr}
use Rattle.mcs51_isa.specs.declared.instr.Instr.TheVariants.{Nop}
use Rattle.mcs51_isa.specs.Table.{encode_of}
use Rattle.mcs51_isa.specs.Listing.{line_of}
use Rattle.cerco_command.specs.Answers.{Says, Answers}
use Rattle.cerco_command.specs.Messages.{reserved_line}
use Rattle.cerco_command.specs.Disassembly.{listed_at, end_of, StandFrom, lines_from, Ends, ListsTo}
use Rattle.cerco_command.specs.Code.Stages.{PutsFront, LineListed}
use Rattle.cerco_command.specs.Status.{status_of}
use Rattle.cerco_command.specs.declared.status.Status.{Status}
use Rattle.cerco_command.specs.declared.status.Status.TheVariants as Is
use Rattle.cerco_command.proofs.Answering.{answered, says_rest, no_memory, pending_cut, front_put, so_far_more}

-- an instruction has a byte at least
some_bytes : (i : Instr) → 1 ≤ length (encode_of i)
some_bytes Nop = lit≤ tt
some_bytes _ = lit≤ tt

-- one instruction more
end_more : (a : ℕ) (is : List Instr) (i : Instr) → end_of a (is ++ i ∷ []) ≡ end_of a is + length (encode_of i)
end_more a [] i = refl
end_more a (j ∷ is) i = end_more (a + length (encode_of j)) is i

lines_more : (a : ℕ) (is : List Instr) (i : Instr) → lines_from a (is ++ i ∷ []) ≡ lines_from a is ++ line_of (end_of a is) i
lines_more a [] i = append-nil (line_of a i)
lines_more a (j ∷ is) i =
    ap (λ (l : List ℕ). line_of a j ++ l) (lines_more (a + length (encode_of j)) is i)
    ∙ sym (append_assoc (line_of a j) (lines_from (a + length (encode_of j)) is) (line_of (end_of (a + length (encode_of j)) is) i))

module _ (code : List ℕ) where
  stand_more : (a : ℕ) (is : List Instr) (i : Instr) → StandFrom code a is → end_of a is < length code → listed_at code (end_of a is) ≡ Some i → StandFrom code a (is ++ i ∷ [])
  stand_more a [] i s before there = (before, there, tt)
  stand_more a (j ∷ is) i s before there = (s.0, s.1, stand_more (a + length (encode_of j)) is i s.2 before there)

  -- instructions were listed up to an address
  pub record Listed (address : ℕ) (text : List ℕ) : Type 0 where
    pub instructions : List Instr
    pub stand : StandFrom code 0 instructions
    pub here : end_of 0 instructions ≡ address
    pub printed : text ≡ lines_from 0 instructions

  begun_listing : Listed 0 []
  begun_listing = record { instructions = []; stand = tt; here = refl; printed = refl }

  one_more : (address : ℕ) (text : List ℕ) (i : Instr) → Listed address text → address < length code → listed_at code address ≡ Some i → Listed (address + length (encode_of i)) (text ++ line_of address i)
  one_more address text i l before there =
      record {
        instructions = l.instructions ++ i ∷ [];
        stand = stand_more 0 l.instructions i l.stand (rw l.here before) (rw l.here there);
        here = end_more 0 l.instructions i ∙ ap (λ (a : ℕ). a + length (encode_of i)) l.here;
        printed = ap (λ (x : List ℕ). x ++ line_of address i) l.printed ∙ ap (λ (a : ℕ). lines_from 0 l.instructions ++ line_of a i) (sym l.here) ∙ sym (lines_more 0 l.instructions i);
      }

  finished : (address : ℕ) (text last : List ℕ) (status : Status) → Listed address text → Ends code address status last → ListsTo code status (text ++ last)
  finished address text last status l ends =
      record {
        instructions = l.instructions;
        stand = l.stand;
        last = last;
        ends = subst (λ (a : ℕ). Ends code a status last) (sym l.here) ends;
        printed = ap (λ (x : List ℕ). x ++ last) l.printed;
      }

  -- how a listing ends from an address on, and what it still prints
  pub record Rest (address : ℕ) (text : List ℕ) : Type 0 where
    pub status : Status
    pub rest : List ℕ
    pub some : address < length code → 0 < length rest
    pub lists : ListsTo code status (text ++ rest)

  by_instr : (fuel address : ℕ) (text : List ℕ) (o : Option Instr) → ((next : ℕ) (longer : List ℕ) → Listed next longer → length code ≤ fuel + next → Rest next longer) → Listed address text → listed_at code address ≡ o → address < length code → length code ≤ suc fuel + address → Rest address text
  by_instr fuel address text None further l is before enough =
      record {
        status = Is.Reserved;
        rest = reserved_line address;
        some = λ h. omega arith;
        lists = finished address text (reserved_line address) Is.Reserved l (before, is, refl);
      }
  by_instr fuel address text (Some i) further l is before enough =
      let bytes = some_bytes i in
      let more = further (address + length (encode_of i)) (text ++ line_of address i) (one_more address text i l before is) (omega arith) in
      record {
        status = more.status;
        rest = line_of address i ++ more.rest;
        some = λ h. omega arith;
        lists = subst (λ (x : List ℕ). ListsTo code more.status x) (append_assoc text (line_of address i) more.rest) more.lists;
      }

  at_end : (address : ℕ) (text : List ℕ) → Listed address text → length code ≤ address → Rest address text
  at_end address text l all = record { status = Is.Done; rest = []; some = λ h. absurd (omega arith); lists = finished address text [] Is.Done l (all, refl) }

  -- every listing ends
  rest_of : (fuel address : ℕ) (text : List ℕ) → Listed address text → length code ≤ fuel + address → Rest address text
  rest_of zero address text l enough = at_end address text l (omega arith)
  rest_of (suc fuel) address text l enough =
      elim (cases_lt address (length code)) [ inl before ↦ by_instr fuel address text (listed_at code address) (rest_of fuel) l refl before enough | inr all ↦ at_end address text l all ]

  ends_somewhere : (address : ℕ) (text : List ℕ) → Listed address text → Rest address text
  ends_somewhere address text l = rest_of (length code) address text l (omega arith)

  -- what is printed of a listing so far
  pub record PrintsOn (o p : SinkState) (address : ℕ) (pending : List ℕ) : Type 0 where
    pub text : List ℕ
    pub so_far : SoFar o p text pending
    pub listed : Listed address text

  pub started : (o : SinkState) → PrintsOn o o 0 []
  started o = record { text = []; so_far = begun o []; listed = begun_listing }

  added_on : (o p : SinkState) (text before line after : List ℕ) → SoFar o p text before → after ≡ before ++ line → SoFar o p (text ++ line) after
  added_on o p text before line after a e = subst (λ (l : List ℕ). SoFar o p (text ++ line) l) (sym e) (so_far_more o p text before line a)

  listed_next : (o p : SinkState) (address next : ℕ) (before pending : List ℕ) → address < length code → (a : PrintsOn o p address before) → (s : LineListed code address (Some next) before pending) → Listed next (a.text ++ s.line)
  listed_next o p address next before pending within a s =
      let i = s.is.0 in
      let P : List ℕ → Type 0 = λ line. Listed next (a.text ++ line) in
      let Q : ℕ → Type 0 = λ n. Listed n (a.text ++ line_of address i) in
      subst P (sym s.is.3) (subst Q (sym s.is.2) (one_more address a.text i a.listed within s.is.1))

  -- a line was added, and a front of what is pending was put
  pub goes_on_printing : (o p q : SinkState) (address next : ℕ) (before pending after : List ℕ) → address < length code → PrintsOn o p address before → LineListed code address (Some next) before pending → PutsFront p q pending after → PrintsOn o q next after
  goes_on_printing o p q address next before pending after within a s f =
      record {
        text = a.text ++ s.line;
        so_far = front_put o p q (a.text ++ s.line) pending after (added_on o p a.text before s.line pending a.so_far s.added) f;
        listed = listed_next o p address next before pending within a s;
      }

  -- the reserved opcode is met, and what is pending is put
  pub reserved_printed : (o p q : SinkState) (address : ℕ) (before pending : List ℕ) (status : Status) → address < length code → PrintsOn o p address before → LineListed code address None before pending → Says p q Is.Reserved pending status → Answers (ListsTo code) o q status
  reserved_printed o p q address before pending status within a s says =
      answered (ListsTo code) o q Is.Reserved (a.text ++ s.line) status (finished address a.text s.line Is.Reserved a.listed (within, s.is.0, s.is.1))
      (says_rest o p q (a.text ++ s.line) pending Is.Reserved status (added_on o p a.text before s.line pending a.so_far s.added) says)

  -- the code's end is met, and what is pending is put
  pub end_printed : (o p q : SinkState) (address : ℕ) (pending : List ℕ) (status : Status) → length code ≤ address → PrintsOn o p address pending → Says p q Is.Done pending status → Answers (ListsTo code) o q status
  end_printed o p q address pending status all a says =
      let P : List ℕ → Type 0 = λ text. ListsTo code Is.Done text in
      answered (ListsTo code) o q Is.Done a.text status (subst P (append-nil a.text) (finished address a.text [] Is.Done a.listed (all, refl)))
      (says_rest o p q a.text pending Is.Done status a.so_far says)

  -- there was no memory for what is pending
  pub pending_lost : (o p : SinkState) (address : ℕ) (pending : List ℕ) → address < length code → PrintsOn o p address pending → Answers (ListsTo code) o p Is.NoMemory
  pending_lost o p address pending within a =
      let r = ends_somewhere address a.text a.listed in
      let size = length-append a.text r.rest in
      let some = r.some within in
      answered (ListsTo code) o p r.status (a.text ++ r.rest) Is.NoMemory r.lists
      (no_memory o p (a.text ++ r.rest) (pending ++ r.rest) r.status (so_far_more o p a.text pending r.rest a.so_far) (omega arith))

  -- the put of what is pending failed
  pub pending_unput : {X : Type 0} (o p q : SinkState) (address next : ℕ) (before pending : List ℕ) (fault : IoFault) → address < length code → PrintsOn o p address before → LineListed code address (Some next) before pending → PutsText {T = X} p q pending (Err fault) → Answers (ListsTo code) o q (status_of fault)
  pending_unput {X} o p q address next before pending fault within a s puts =
      let r = ends_somewhere next (a.text ++ s.line) (listed_next o p address next before pending within a s) in
      answered (ListsTo code) o q r.status ((a.text ++ s.line) ++ r.rest) (status_of fault) r.lists
      (pending_cut {X = X} o p q (a.text ++ s.line) pending r.rest r.status fault (added_on o p a.text before s.line pending a.so_far s.added) puts)
