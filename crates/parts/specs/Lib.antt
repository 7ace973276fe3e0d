pub mod CheckTwo
