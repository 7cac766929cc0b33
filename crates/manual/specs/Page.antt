-- A page of the manual: its name, the drawing of its encoding, its Format lines and its Restrictions. What a line says
-- of a word.
use Rattle.std.specs.Prelude.{ℕ, ◌+◌, ◌*◌, ◌/◌, ◌%◌, ◌^◌, Bool, true, false, not, cond, ◌&&◌, ◌||◌, List, [], ◌∷◌, map}
use Rattle.std.specs.Prelude.{eqb, leb, ℤ, pos}
use Prim.Native.String.{String}
use Rattle.word.specs.Word.{Field, same_field, op, rs, rt, rd, sa, funct, Fields, room}
use Rattle.word.specs.Numbers.{signed, branch_to, jump_to, size_of}
use Rattle.classes.specs.Meaning.{six}
use Rattle.classes.specs.Refusals.{Test, ◌one_of◌, ◌none_of◌, meets}

-- ── the drawing ──

-- the names that pages give to the fields of a word
pub data Name : Type 0 where
  Rs Rt Rd Sa Base Offset Immediate InstrIndex Fs Ft Fd Fr Index Hint CacheOp Cc Code Stype Sel Impl Cofun Msbd : Name
  Msb Lsb : Name
  deriving Discrete as Name_discrete

abbrev pub same_name : Name → Name → Bool
same_name m n = elim (Name_discrete m n) [ yes e ↦ true | no d ↦ false ]

-- what is in a column. A page is drawn in six: bits 31..26, 25..21, 20..16, 15..11, 10..6, 5..0
pub data Column : Type 0 where
  is : ℕ → Column  -- fixed bits
  box : Name → Column  -- a field, or as much of it as the column holds
  over : Name → ℕ → ℕ → Column  -- a field, and below it this many bits with this value
  under : ℕ → ℕ → Name → Column  -- this value, and below it this many bits of a field

unfoldable pub fit : Column → ℕ → Bool
fit (is v) a = eqb a v
fit (box n) a = true
fit (over n k v) a = eqb (a % 2 ^ k) v
fit (under v k n) a = eqb (a / 2 ^ k) v

-- a field's value so far, s, and what a column with r values adds to it on the right
unfoldable pub part : Name → Column → ℕ → ℕ → ℕ → ℕ
part n (is v) r a s = s
part n (box m) r a s = cond (same_name n m) (s * r + a) s
part n (over m k v) r a s = cond (same_name n m) (s * (r / 2 ^ k) + a / 2 ^ k) s
part n (under v k m) r a s = cond (same_name n m) (s * 2 ^ k + a % 2 ^ k) s

-- ── Format lines ──

-- an operand of a Format line
pub data Arg : Type 0 where
  gpr fpr : Name → Arg  -- a general register, a floating-point register
  fcr hwr cp0 cp2 : Name → Arg  -- a control register of COP1, a hardware register, a register of coprocessor 0 or 2
  unsigned signed16 : Name → Arg  -- a number, zero-extended or sign-extended
  plus : ℕ → Name → Arg  -- the field and this much more
  span : ℕ → Name → Name → Arg  -- the size of a bit field, from its last bit and this much more, and its first
  offset_base : Arg  -- offset(base)
  index_base : Arg  -- index(base)
  pc_relative : Arg  -- offset, of a branch
  in_region : Arg  -- target, of a jump

-- a Format line, for words whose fields meet the tests: `rd = 31 implied`
pub record Format : Type 0 where
  pub when : List Test
  pub args : List Arg

-- ── Restrictions ──

-- how two fields can stand to each other
pub data Relation : Type 0 where
  rs_is_rd : Relation
  rt_is_rd : Relation
  inside : Relation  -- the bit field that starts at sa and is rd + 1 long ends within 32 bits
  ordered : Relation  -- bit sa is not above bit rd
  deriving Discrete as Relation_discrete

unfoldable pub related : Relation → Fields → Bool
related rs_is_rd f = eqb (f rs) (f rd)
related rt_is_rd f = eqb (f rt) (f rd)
related inside f = leb (f sa + (f rd + 1)) 32
related ordered f = leb (f sa) (f rd)

pub data Claim : Type 0 where
  holds fails : Relation → Claim

unfoldable pub true_of : Claim → Fields → Bool
true_of (holds ρ) f = related ρ f
true_of (fails ρ) f = not (related ρ f)

unfoldable pub claimed : List Claim → Fields → Bool
claimed [] f = true
claimed (c ∷ cs) f = true_of c f && claimed cs f

-- tests of single fields, and of pairs of them
pub record Rules : Type 0 where
  pub tests : List Test
  pub claims : List Claim

unfoldable pub obeys : Rules → Fields → Bool
obeys u f = meets u.tests f && claimed u.claims f

-- ── a page and its lines ──

-- MIPS32 has the page, and MIPS64 with it; or MIPS64 alone
pub data Isa : Type 0 where
  MIPS32 MIPS64 : Isa

pub record Page : Type 0 where
  pub name : String
  pub isa : Isa
  pub pop : Column
  pub prs : Column
  pub prt : Column
  pub prd : Column
  pub psa : Column
  pub pfunct : Column
  pub formats : List Format
  pub limit : Rules

abbrev pub column_of : Page → Field → Column
column_of p op = p.pop
column_of p rs = p.prs
column_of p rt = p.prt
column_of p rd = p.prd
column_of p sa = p.psa
column_of p funct = p.pfunct

-- does the page define the word? Its drawing and its Restrictions allow it
unfoldable pub defines : Page → Fields → Bool
defines p f = six (λ x. fit (column_of p x) (f x)) && obeys p.limit f

-- a page with one of its Format lines
pub record Line : Type 0 where
  pub page : Page
  pub name : String
  pub when : List Test
  pub args : List Arg

-- is the word one of the page's, and the Format line for it?
unfoldable pub has : Line → Fields → Bool
has ℓ f = defines ℓ.page f && meets ℓ.when f

-- the value of a field: its columns side by side
unfoldable pub value : Page → Fields → Name → ℕ
value p f n = add funct (add sa (add rd (add rt (add rs (add op 0)))))
  where
    add : Field → ℕ → ℕ
    add x s = part n (column_of p x) (room x) (f x) s

-- ── what a line says ──

-- the bits of the PC: 64 in MIPS64, 32 in MIPS32. A target is what the PC holds of it
abbrev pub pc_bits : Bool → ℕ
pc_bits true = 64
pc_bits false = 32

-- an operand as the manual means it
pub data Meant : Type 0 where
  GPR FPR FCR HWR CP0 CP2 : ℕ → Meant
  number : ℤ → Meant
  memory : ℤ → ℕ → Meant  -- this far from the register's value
  indexed : ℕ → ℕ → Meant  -- the sum of two registers
  address : ℕ → Meant

-- by the manual of a width, for a word at an address
unfoldable pub meant_by : Arg → Bool → ℕ → (Name → ℕ) → Meant
meant_by (gpr n) wide va v = GPR (v n)
meant_by (fpr n) wide va v = FPR (v n)
meant_by (fcr n) wide va v = FCR (v n)
meant_by (hwr n) wide va v = HWR (v n)
meant_by (cp0 n) wide va v = CP0 (v n)
meant_by (cp2 n) wide va v = CP2 (v n)
meant_by (unsigned n) wide va v = number (pos (v n))
meant_by (signed16 n) wide va v = number (signed 16 (v n))
meant_by (plus k n) wide va v = number (pos (v n + k))
meant_by (span k m l) wide va v = number (size_of (v m + k) (v l))
meant_by offset_base wide va v = memory (signed 16 (v Offset)) (v Base)
meant_by index_base wide va v = indexed (v Index) (v Base)
meant_by pc_relative wide va v = address (branch_to va (v Offset) % 2 ^ pc_bits wide)
meant_by in_region wide va v = address (jump_to va (v InstrIndex) % 2 ^ pc_bits wide)

abbrev pub meant_in : Page → List Arg → Bool → ℕ → Fields → List Meant
meant_in p xs wide va f = map (λ a. meant_by a wide va (value p f)) xs

-- the operands of a word, in the order of the Format line
unfoldable pub meant : Line → Bool → ℕ → Fields → List Meant
meant ℓ wide va f = meant_in ℓ.page ℓ.args wide va f

-- ── what a line leaves out ──

unfoldable pub names : Arg → Name → Bool
names (gpr m) n = same_name m n
names (fpr m) n = same_name m n
names (fcr m) n = same_name m n
names (hwr m) n = same_name m n
names (cp0 m) n = same_name m n
names (cp2 m) n = same_name m n
names (unsigned m) n = same_name m n
names (signed16 m) n = same_name m n
names (plus k m) n = same_name m n
names (span k m l) n = same_name m n || same_name l n
names offset_base n = same_name Offset n || same_name Base n
names index_base n = same_name Index n || same_name Base n
names pc_relative n = same_name Offset n
names in_region n = same_name InstrIndex n

unfoldable pub named : List Arg → Name → Bool
named [] n = false
named (a ∷ xs) n = names a n || named xs n

-- the operands that do not name a field
unfoldable pub without : Name → List Arg → List Arg
without n [] = []
without n (a ∷ xs) = cond (names a n) (without n xs) (a ∷ without n xs)

-- the numbers are equal, but for this many low bits
unfoldable pub one_above : ℕ → List ℕ → Bool
one_above k [] = true
one_above k (v ∷ []) = true
one_above k (v ∷ u ∷ vs) = eqb (v / 2 ^ k) (u / 2 ^ k) && one_above k (u ∷ vs)

-- the tests leave one value in the column, but for this many low bits
unfoldable pub implied : List Test → ℕ → Field → Bool
implied [] k x = false
implied (y one_of vs ∷ ts) k x = (same_field y x && one_above k vs) || implied ts k x
implied (y none_of vs ∷ ts) k x = implied ts k x

-- the Restrictions want rt to be what rd is
unfoldable pub tied : List Claim → Field → Bool
tied [] x = false
tied (holds rt_is_rd ∷ cs) x = same_field rt x || tied cs x
tied (holds rs_is_rd ∷ cs) x = tied cs x
tied (holds inside ∷ cs) x = tied cs x
tied (holds ordered ∷ cs) x = tied cs x
tied (fails ρ ∷ cs) x = tied cs x

-- the line or the Restrictions leave one value in the column, but for this many low bits
unfoldable pub settled : Line → ℕ → Field → Bool
settled ℓ k x = implied ℓ.when k x || implied ℓ.page.limit.tests k x

-- an operand names what the column holds, or it has one value
unfoldable pub told : Line → Column → Field → Bool
told ℓ (is v) x = true
told ℓ (box n) x = named ℓ.args n || (settled ℓ 0 x || tied ℓ.page.limit.claims x)
told ℓ (over n k v) x = named ℓ.args n || settled ℓ k x
told ℓ (under v k n) x = named ℓ.args n || settled ℓ 0 x

-- do its operands tell all that the page's fields hold?
unfoldable pub whole : Line → Bool
whole ℓ = six (λ x. told ℓ (column_of ℓ.page x) x)
