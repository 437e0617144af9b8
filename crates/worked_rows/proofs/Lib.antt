mod RootPattern
